pub use Rattle.datagrams.specs as of_datagrams
pub use Rattle.link_mails.specs as of_link_mails
pub use Rattle.link_mails.specs.of_link_model as of_link_model
pub use Rattle.link_mails.specs.of_mailbox_mail as of_mailbox_mail
pub mod Links
pub mod Halves
pub mod Next
pub mod Access
pub mod Any
pub mod Seat
pub mod Steps
