pub use Rattle.protocol_models.specs.of_eoe as of_eoe
pub use Rattle.protocol_models.specs.of_mailbox_mail as of_mailbox_mail
pub use Rattle.protocol_models.specs as of_protocol_models
pub mod Talk
pub mod Hear
