pub use Rattle.protocol_models.specs.of_eoe as of_eoe
pub use Rattle.protocol_models.specs.of_exchange_model as of_exchange_model
pub use Rattle.protocol_models.specs.of_foe_codec as of_foe_codec
pub use Rattle.protocol_models.specs.of_mailbox_mail as of_mailbox_mail
pub use Rattle.protocol_models.specs as of_protocol_models
pub mod Idns
