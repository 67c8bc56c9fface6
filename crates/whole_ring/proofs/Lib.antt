pub use Rattle.slave_lives.proofs.of_frame_view as of_frame_view
pub use Rattle.slave_lives.proofs.of_frames_seen as of_frames_seen
pub use Rattle.slave_lives.proofs.of_life_model as of_life_model
pub use Rattle.slave_lives.proofs as of_slave_lives
pub mod Begins
pub mod Boots
pub mod Came
pub mod Frames
pub mod Keeps
pub mod Kept
pub mod Members
pub mod Nodes
pub mod Open
pub mod Overs
pub mod Promised
pub mod Rows
pub mod Seated
pub mod Shut
pub mod Steadied
pub mod Steady
pub mod Still
pub mod Turning
pub mod WholeTurning
