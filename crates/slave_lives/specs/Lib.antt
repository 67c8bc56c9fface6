pub use Rattle.frames_seen.specs.of_al_state as of_al_state
pub use Rattle.frames_seen.specs.of_datagrams as of_datagrams
pub use Rattle.frames_seen.specs.of_ec_fields as of_ec_fields
pub use Rattle.frames_seen.specs.of_esc_registers as of_esc_registers
pub use Rattle.frames_seen.specs.of_exchange_model as of_exchange_model
pub use Rattle.frames_seen.specs.of_frame_view as of_frame_view
pub use Rattle.frames_seen.specs as of_frames_seen
pub use Rattle.frames_seen.specs.of_life_model as of_life_model
pub use Rattle.frames_seen.specs.of_link_mails as of_link_mails
pub use Rattle.frames_seen.specs.of_link_model as of_link_model
pub use Rattle.frames_seen.specs.of_mailbox_slave as of_mailbox_slave
pub use Rattle.frames_seen.specs.of_segment_model as of_segment_model
pub use Rattle.frames_seen.specs.of_segment_ring as of_segment_ring
pub use Rattle.frames_seen.specs.of_slave_node as of_slave_node
pub use Rattle.frames_seen.specs.of_state_model as of_state_model
pub mod Steps
pub mod Opening
pub mod Returning
pub mod Ways
pub mod Nodes
pub mod Rings
pub mod Lived
pub mod Stands
pub mod Seats
pub mod Ends
pub mod Asked
pub mod Shown
