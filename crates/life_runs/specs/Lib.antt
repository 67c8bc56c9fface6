pub use Rattle.master_tour.specs.of_al_state as of_al_state
pub use Rattle.master_hand.specs.of_coe_client as of_coe_client
pub use Rattle.master_tour.specs.of_datagrams as of_datagrams
pub use Rattle.master_hand.specs.of_exchange_model as of_exchange_model
pub use Rattle.master_tour.specs.of_frame_view as of_frame_view
pub use Rattle.master_tour.specs.of_life_model as of_life_model
pub use Rattle.master_tour.specs.of_link_mails as of_link_mails
pub use Rattle.master_tour.specs.of_link_model as of_link_model
pub use Rattle.master_tour.specs.of_mailbox_mail as of_mailbox_mail
pub use Rattle.master_tour.specs.of_mailbox_master as of_mailbox_master
pub use Rattle.master_tour.specs.of_master_duty as of_master_duty
pub use Rattle.master_hand.specs as of_master_hand
pub use Rattle.master_tour.specs.of_master_side as of_master_side
pub use Rattle.master_tour.specs as of_master_tour
pub use Rattle.master_hand.specs.of_protocol_models as of_protocol_models
pub use Rattle.master_hand.specs.of_segment_model as of_segment_model
pub use Rattle.master_hand.specs.of_segment_plan as of_segment_plan
pub use Rattle.segment_ring.specs as of_segment_ring
pub use Rattle.master_hand.specs.of_state_model as of_state_model
pub mod Led
pub mod First
pub mod Spans
pub mod Causes
pub mod Opened
pub mod Told
pub mod Served
pub mod Came
pub mod Lives
