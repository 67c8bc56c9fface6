pub use Rattle.toml_places.specs as of_toml_places
pub use Rattle.scenario_keys.specs as of_scenario_keys
pub mod Values
pub mod Places
pub mod Keys
