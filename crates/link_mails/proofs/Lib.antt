pub use Rattle.link_model.proofs as of_link_model
pub use Rattle.mailbox_mail.proofs as of_mailbox_mail
