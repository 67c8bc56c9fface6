pub use Rattle.slave_lives.specs.of_al_state as of_al_state
pub use Rattle.slave_lives.specs.of_ec_fields as of_ec_fields
pub use Rattle.slave_lives.specs.of_esc_registers as of_esc_registers
pub use Rattle.slave_lives.specs.of_frame_view as of_frame_view
pub use Rattle.slave_lives.specs.of_frames_seen as of_frames_seen
pub use Rattle.slave_lives.specs.of_life_model as of_life_model
pub use Rattle.slave_lives.specs.of_link_model as of_link_model
pub use Rattle.slave_lives.specs.of_mailbox_slave as of_mailbox_slave
pub use Rattle.slave_lives.specs as of_slave_lives
pub mod Members
pub mod Promises
pub mod Turning
pub mod Turns
pub mod Whole
