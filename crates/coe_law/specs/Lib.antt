pub mod Talks
pub mod Mailboxes
