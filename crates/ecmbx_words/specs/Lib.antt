pub use Rattle.ec_outside.specs as of_ec_outside
pub use Rattle.scenario_keys.specs as of_scenario_keys
pub mod Status
pub mod Form
pub mod Texts
pub mod Ends
pub mod Files
