pub use Rattle.protocol_models.proofs.of_exchange_model as of_exchange_model
pub use Rattle.protocol_models.proofs as of_protocol_models
pub mod Placed
pub mod Tables
pub mod Lawful
