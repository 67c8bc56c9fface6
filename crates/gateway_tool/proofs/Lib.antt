pub use Rattle.coe_client.proofs.of_ec_fields as of_ec_fields
pub use Rattle.gateway_core.proofs.of_mailbox_mail as of_mailbox_mail
pub mod Clients
pub mod Grams
pub mod Talks
pub mod Hearings
pub mod Courses
pub mod Endings
