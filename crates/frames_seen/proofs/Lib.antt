pub use Rattle.frame_view.proofs as of_frame_view
pub use Rattle.frame_view.proofs.of_life_model as of_life_model
pub use Rattle.slave_node.proofs.of_link_model as of_link_model
pub use Rattle.frame_view.proofs.of_mailbox_mail as of_mailbox_mail
pub use Rattle.slave_node.proofs as of_slave_node
pub use Rattle.frame_view.proofs.of_state_model as of_state_model
pub mod Numbers
pub mod Others
pub mod Boxes
pub mod Words
pub mod Quiet
pub mod One
pub mod Frames
pub mod Owns
pub mod Rings
pub mod Aparts
pub mod Places
pub mod Rows
pub mod Passes
mod Worked
pub mod Tables
pub mod Carries
pub mod Returned
