pub use Rattle.master_duty.specs.of_al_state as of_al_state
pub use Rattle.mailbox_master.specs.of_datagrams as of_datagrams
pub use Rattle.master_duty.specs.of_ec_fields as of_ec_fields
pub use Rattle.frame_view.specs.of_exchange_model as of_exchange_model
pub use Rattle.frame_view.specs as of_frame_view
pub use Rattle.frame_view.specs.of_life_model as of_life_model
pub use Rattle.mailbox_master.specs.of_link_mails as of_link_mails
pub use Rattle.mailbox_master.specs.of_link_model as of_link_model
pub use Rattle.master_duty.specs.of_mailbox_mail as of_mailbox_mail
pub use Rattle.mailbox_master.specs as of_mailbox_master
pub use Rattle.master_duty.specs as of_master_duty
pub use Rattle.master_duty.specs.of_segment_model as of_segment_model
pub use Rattle.master_duty.specs.of_state_model as of_state_model
pub mod Fits
pub mod Shown
pub mod Carried
pub mod Sent
pub mod Heard
pub mod Passes
pub mod Passing
pub mod Again
pub mod Due
pub mod Recall
pub mod Free
pub mod Sides
pub mod Returns
pub mod First
pub mod Counts
