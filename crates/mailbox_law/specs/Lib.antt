pub use Rattle.al_state.specs.of_ec_fields as of_ec_fields
pub use Rattle.mailbox_master.specs.of_link_mails as of_link_mails
pub use Rattle.mailbox_master.specs.of_link_model as of_link_model
pub use Rattle.mailbox_master.specs as of_mailbox_master
pub mod Waiting
pub mod Wire
pub mod Steps
pub mod World
