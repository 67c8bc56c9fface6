pub use Rattle.eoe.proofs as of_eoe
pub mod Offering
