pub use Rattle.gateway_core.specs as of_gateway_core
pub use Rattle.gateway_core.specs.of_mailbox_mail as of_mailbox_mail
pub use Rattle.run_record.specs.of_run_book as of_run_book
pub use Rattle.run_record.specs.of_run_notes as of_run_notes
pub use Rattle.run_record.specs as of_run_record
pub mod Stops
pub mod Events
pub mod Heard
pub mod Account
pub mod Desk
pub mod Rooms
pub mod Since
pub mod Serving
pub mod Goes
pub mod Replies
pub mod Done
pub mod Stray
pub mod Mails
pub mod Served
