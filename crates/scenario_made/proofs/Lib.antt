pub use Rattle.ec_fields.proofs as of_ec_fields
pub mod Times
