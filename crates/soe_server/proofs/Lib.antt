pub use Rattle.idn_table.proofs as of_idn_table
pub mod Joins
pub mod Exchanged
