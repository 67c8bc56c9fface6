pub use Rattle.scenario_services.specs.of_scenario_keys as of_scenario_keys
pub use Rattle.scenario_services.specs as of_scenario_services
pub use Rattle.scenario_services.specs.of_segment_plan as of_segment_plan
pub mod Losses
pub mod Top
pub mod Tables
pub mod Told
pub mod Whole
