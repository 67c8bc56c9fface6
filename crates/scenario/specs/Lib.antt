pub use Rattle.scenario_document.specs.of_scenario_services as of_scenario_services
pub mod Document
pub use Rattle.scenario_document.specs.Told
