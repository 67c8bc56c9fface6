pub use Rattle.protocol_models.proofs as of_protocol_models
mod Sends
mod TookIs
