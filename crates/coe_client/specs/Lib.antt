pub use Rattle.protocol_models.specs.of_coe_codec as of_coe_codec
pub use Rattle.protocol_models.specs.of_exchange_model as of_exchange_model
pub use Rattle.protocol_models.specs.of_mailbox_mail as of_mailbox_mail
pub use Rattle.object_dictionary.specs as of_object_dictionary
pub use Rattle.protocol_models.specs as of_protocol_models
pub mod Talk
pub mod Hear
pub mod Send
