pub use Rattle.object_dictionary.proofs.of_ec_fields as of_ec_fields
pub use Rattle.protocol_models.proofs.of_exchange_model as of_exchange_model
pub use Rattle.protocol_models.proofs as of_protocol_models
pub mod TookIs
pub mod Sends
pub mod Open
pub mod Paced
