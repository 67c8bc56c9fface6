pub use Rattle.mailbox_master.proofs.of_link_model as of_link_model
pub mod Accesses
pub mod Brought
pub mod Meetings
pub mod Stepping
pub mod Running
