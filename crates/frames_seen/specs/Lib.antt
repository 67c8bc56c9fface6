pub use Rattle.slave_node.specs.of_al_state as of_al_state
pub use Rattle.slave_node.specs.of_datagrams as of_datagrams
pub use Rattle.frame_view.specs.of_ec_fields as of_ec_fields
pub use Rattle.slave_node.specs.of_esc_registers as of_esc_registers
pub use Rattle.frame_view.specs.of_exchange_model as of_exchange_model
pub use Rattle.frame_view.specs as of_frame_view
pub use Rattle.frame_view.specs.of_life_model as of_life_model
pub use Rattle.frame_view.specs.of_link_mails as of_link_mails
pub use Rattle.frame_view.specs.of_link_model as of_link_model
pub use Rattle.frame_view.specs.of_mailbox_mail as of_mailbox_mail
pub use Rattle.slave_node.specs.of_mailbox_slave as of_mailbox_slave
pub use Rattle.frame_view.specs.of_segment_model as of_segment_model
pub use Rattle.slave_node.specs.of_segment_ring as of_segment_ring
pub use Rattle.slave_node.specs as of_slave_node
pub use Rattle.frame_view.specs.of_state_model as of_state_model
pub mod Slaves
pub mod Spoken
pub mod Met
pub mod FrameMet
pub mod Own
pub mod Ring
pub mod Places
pub mod Kept
pub mod Shows
