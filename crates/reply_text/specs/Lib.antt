pub use Rattle.mailbox_mail.specs as of_mailbox_mail
pub mod Reply
