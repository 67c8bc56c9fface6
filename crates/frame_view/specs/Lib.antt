pub use Rattle.al_state.specs.of_ec_fields as of_ec_fields
pub use Rattle.life_model.specs.of_exchange_model as of_exchange_model
pub use Rattle.life_model.specs as of_life_model
pub use Rattle.link_mails.specs as of_link_mails
pub use Rattle.link_mails.specs.of_link_model as of_link_model
pub use Rattle.link_mails.specs.of_mailbox_mail as of_mailbox_mail
pub use Rattle.life_model.specs.of_segment_model as of_segment_model
pub use Rattle.life_model.specs.of_state_model as of_state_model
pub mod View
pub mod Seen
pub mod Openings
pub mod Frames
pub mod Shares
