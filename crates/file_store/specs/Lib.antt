pub use Rattle.block_pool.specs as of_block_pool
pub mod Files
pub mod Stored
pub mod Store
