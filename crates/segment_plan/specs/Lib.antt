pub use Rattle.file_store.specs.of_block_pool as of_block_pool
pub use Rattle.idn_table.specs.of_eoe as of_eoe
pub use Rattle.file_store.specs as of_file_store
pub use Rattle.idn_table.specs as of_idn_table
pub use Rattle.object_dictionary.specs as of_object_dictionary
pub mod Bound
pub mod Sound
