pub use Rattle.ecmbx_words.specs as of_ecmbx_words
pub use Rattle.gateway_tool.specs as of_gateway_tool
pub use Rattle.ecmbx_words.specs.of_scenario_keys as of_scenario_keys
pub use Rattle.gateway_tool.specs.of_segment_plan as of_segment_plan
pub mod Asked
pub mod Lines
pub mod Course
pub mod Causes
pub mod Objects
