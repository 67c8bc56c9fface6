pub use Rattle.scenario_keys.proofs as of_scenario_keys
pub mod Pairs
pub mod Fit
pub mod Rising
pub mod SoundObjects
