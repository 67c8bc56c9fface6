pub use Rattle.scenario_values.proofs.of_scenario_keys as of_scenario_keys
pub mod Said
pub mod Suited
pub mod Appended
