pub use Rattle.mailbox_mail.specs as of_mailbox_mail
pub mod Access
pub mod Manager
pub mod Registers
