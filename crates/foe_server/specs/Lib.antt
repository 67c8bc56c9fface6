pub use Rattle.file_store.specs.of_block_pool as of_block_pool
pub use Rattle.file_store.specs as of_file_store
pub mod Stores
pub mod Serving
