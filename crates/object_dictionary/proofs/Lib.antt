pub use Rattle.ec_fields.proofs as of_ec_fields
pub mod Tests
pub mod Kept
pub mod WholeKept
pub mod Placed
pub mod Listed
