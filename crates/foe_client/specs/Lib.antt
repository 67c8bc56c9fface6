pub use Rattle.protocol_models.specs.of_exchange_model as of_exchange_model
pub use Rattle.protocol_models.specs as of_protocol_models
pub mod Talk
pub mod Send
pub mod Hear
