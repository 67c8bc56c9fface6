pub use Rattle.mailbox_mail.proofs as of_mailbox_mail
pub mod Queuing
