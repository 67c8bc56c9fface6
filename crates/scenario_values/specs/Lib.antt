pub use Rattle.segment_plan.specs.of_block_pool as of_block_pool
pub use Rattle.segment_plan.specs.of_eoe as of_eoe
pub use Rattle.segment_plan.specs.of_file_store as of_file_store
pub use Rattle.segment_plan.specs.of_idn_table as of_idn_table
pub use Rattle.segment_plan.specs.of_object_dictionary as of_object_dictionary
pub use Rattle.scenario_keys.specs as of_scenario_keys
pub use Rattle.segment_plan.specs as of_segment_plan
pub mod Octets
pub mod Tables
pub mod Bounds
pub mod Entries
pub mod Objects
