pub use Rattle.al_state.specs as of_al_state
pub use Rattle.al_state.specs.of_datagrams as of_datagrams
pub use Rattle.mailbox_slave.specs.of_esc_registers as of_esc_registers
pub use Rattle.mailbox_slave.specs.of_link_mails as of_link_mails
pub use Rattle.mailbox_slave.specs.of_mailbox_mail as of_mailbox_mail
pub use Rattle.mailbox_slave.specs as of_mailbox_slave
pub use Rattle.segment_ring.specs as of_segment_ring
pub mod Node
pub mod Step
pub mod Passing
