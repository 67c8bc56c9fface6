pub use Rattle.scenario_values.specs.of_scenario_keys as of_scenario_keys
pub use Rattle.scenario_values.specs as of_scenario_values
pub use Rattle.scenario_values.specs.of_segment_plan as of_segment_plan
pub mod Actions
pub mod Sdo
pub mod Bodies
pub mod Suited
pub mod Services
pub mod Reading
