pub use Rattle.esc_registers.specs as of_esc_registers
pub use Rattle.link_mails.specs as of_link_mails
pub use Rattle.link_mails.specs.of_link_model as of_link_model
pub use Rattle.esc_registers.specs.of_mailbox_mail as of_mailbox_mail
pub mod Kept
pub mod Registers
pub mod Node
pub mod Exact
