pub use Rattle.al_state.specs as of_al_state
pub use Rattle.mailbox_mail.specs.of_ec_fields as of_ec_fields
pub use Rattle.mailbox_mail.specs as of_mailbox_mail
pub use Rattle.state_model.specs.of_segment_model as of_segment_model
pub use Rattle.state_model.specs as of_state_model
pub mod Reply
pub mod Stages
pub mod Mets
