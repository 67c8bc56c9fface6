pub use Rattle.packets_heard.proofs.of_master_node as of_master_node
pub use Rattle.packets_heard.proofs as of_packets_heard
pub use Rattle.served_rings.proofs.of_run_work as of_run_work
pub use Rattle.served_rings.proofs.of_state_model as of_state_model
mod Served
mod Ups
mod Books
mod Rests
pub mod Known
mod Rounds
mod Gones
mod Slaves
mod Rest
pub mod Accepted
pub mod All
pub mod Begun
mod Calm
pub mod Cuts
mod Emits
pub mod Epochs
mod FoeKept
mod Folds
pub mod Live
mod Lives
mod Long
mod Outcomes
pub mod Owns
mod Passed
mod Ports
mod Seen
mod Sendings
mod ServedAll
mod Speaks
mod Started
mod Stays
pub mod Switched
pub mod Times
pub mod Tracked
pub mod Turns
mod Valid
pub mod Weighed
mod Wholes
