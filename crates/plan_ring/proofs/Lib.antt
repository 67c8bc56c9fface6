pub use Rattle.slave_server.proofs.of_exchange_model as of_exchange_model
pub use Rattle.whole_ring.proofs.of_frame_view as of_frame_view
pub use Rattle.whole_ring.proofs.of_frames_seen as of_frames_seen
pub use Rattle.whole_ring.proofs.of_life_model as of_life_model
pub use Rattle.slave_server.proofs.of_link_model as of_link_model
pub use Rattle.run_frames.proofs.of_master_tour as of_master_tour
pub use Rattle.run_frames.proofs as of_run_frames
pub use Rattle.whole_ring.proofs.of_slave_lives as of_slave_lives
pub use Rattle.slave_server.proofs.of_slave_model as of_slave_model
pub use Rattle.slave_server.proofs.of_slave_parts as of_slave_parts
pub use Rattle.run_frames.proofs.of_state_model as of_state_model
pub use Rattle.whole_ring.proofs as of_whole_ring
pub mod Alike
pub mod All
pub mod Answering
pub mod Answers
pub mod Asked
pub mod CoeRooms
pub mod DriveRooms
pub mod Each
pub mod Epochs
pub mod Eras
pub mod First
pub mod FoeRooms
mod Frames
pub mod Goes
pub mod Halves
pub mod Hands
pub mod KeptFirst
pub mod Known
pub mod Lives
pub mod Master
mod Meets
mod Moments
pub mod Named
pub mod NamedAlike
pub mod NamedNames
pub mod Names
mod Open
pub mod OpenEach
pub mod Opened
pub mod Opens
mod Owns
pub mod Pairs
pub mod Plan
mod PlanOpens
pub mod Reals
pub mod Repairs
pub mod Rooms
pub mod Rows
mod Runs
mod Seats
pub mod Settled
pub mod SlaveTurns
mod Slaves
pub mod Sounds
mod Told
pub mod Turns
pub mod Valid
pub mod Ways
