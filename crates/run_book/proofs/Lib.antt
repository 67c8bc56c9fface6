pub use Rattle.master_node.proofs as of_master_node
pub mod Heards
