pub use Rattle.mailbox_mail.specs.of_ec_fields as of_ec_fields
pub use Rattle.ec_outside.specs as of_ec_outside
pub use Rattle.mailbox_mail.specs as of_mailbox_mail
pub mod Framing
pub mod Gateway
