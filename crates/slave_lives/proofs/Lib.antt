pub use Rattle.frames_seen.proofs.of_frame_view as of_frame_view
pub use Rattle.frames_seen.proofs as of_frames_seen
pub use Rattle.frames_seen.proofs.of_life_model as of_life_model
pub use Rattle.frames_seen.proofs.of_state_model as of_state_model
pub mod Stepping
pub mod Opens
pub mod Brings
pub mod Openings
pub mod Returns
pub mod Turning
pub mod Brought
pub mod Ways
pub mod Closed
pub mod Exacts
pub mod Words
pub mod NodeSteps
pub mod NodeFrames
pub mod RingFrames
pub mod Owned
pub mod EraFrames
pub mod RingLives
pub mod EraBegins
pub mod Closing
pub mod Arrives
pub mod AllSeats
pub mod ClosedFrames
pub mod Backs
pub mod EraEnds
pub mod Quiets
pub mod Servers
mod Worked
pub mod Asking
pub mod Going
pub mod Meeting
mod Reading
mod Showing
pub mod Standing
