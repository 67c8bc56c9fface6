pub use Rattle.plan_ring.proofs.of_frames_seen as of_frames_seen
pub use Rattle.life_counts.proofs as of_life_counts
pub use Rattle.plan_ring.proofs as of_plan_ring
pub use Rattle.life_counts.proofs.of_serving_model as of_serving_model
pub use Rattle.plan_ring.proofs.of_slave_lives as of_slave_lives
pub use Rattle.plan_ring.proofs.of_slave_model as of_slave_model
pub use Rattle.plan_ring.proofs.of_whole_ring as of_whole_ring
pub mod Counted
mod Echoes
mod Flows
pub mod Kept
mod Opened
pub mod Packets
pub mod Paid
pub mod Placed
mod Reopened
mod Rounds
mod Runs
pub mod ServedLasts
pub mod ServedWorked
mod Shaped
mod Sharing
pub mod Sums
pub mod Together
mod Worked
