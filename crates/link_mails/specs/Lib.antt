pub use Rattle.link_model.specs as of_link_model
pub use Rattle.mailbox_mail.specs as of_mailbox_mail
pub mod Body
