pub use Rattle.served_places.proofs.of_exchange_model as of_exchange_model
pub use Rattle.served_places.proofs.of_few_replies as of_few_replies
pub use Rattle.run_work.proofs.of_frames_seen as of_frames_seen
pub use Rattle.run_work.proofs.of_life_counts as of_life_counts
pub use Rattle.served_places.proofs.of_life_model as of_life_model
pub use Rattle.run_work.proofs.of_plan_ring as of_plan_ring
pub use Rattle.served_places.proofs.of_protocol_models as of_protocol_models
pub use Rattle.served_places.proofs.of_run_frames as of_run_frames
pub use Rattle.run_work.proofs as of_run_work
pub use Rattle.served_places.proofs.of_segment_model as of_segment_model
pub use Rattle.served_places.proofs as of_served_places
pub use Rattle.run_work.proofs.of_serving_model as of_serving_model
pub use Rattle.run_work.proofs.of_slave_model as of_slave_model
pub use Rattle.served_places.proofs.of_state_model as of_state_model
pub use Rattle.run_work.proofs.of_whole_ring as of_whole_ring
pub mod All
pub mod Any
mod Before
pub mod Begins
mod Calms
mod Carried
pub mod Chains
pub mod Counted
pub mod Emitted
mod Ended
pub mod Ends
pub mod Epochs
pub mod Fair
pub mod Frames
pub mod Gifts
mod Given
pub mod Heard
pub mod HeardSeen
mod HeardTold
pub mod Kept
pub mod Led
pub mod LedLives
pub mod Leds
pub mod Lives
pub mod Mails
pub mod Newest
pub mod Octets
mod NoMore
pub mod OfCoe
pub mod One
pub mod Others
pub mod Passed
mod RestAll
mod Replied
mod Rested
pub mod Reopened
pub mod Rings
pub mod Rows
mod RowsSeen
pub mod Seen
mod SeenRests
pub mod SeenRows
pub mod SeenSettled
pub mod SeenWhole
pub mod ServedAll
pub mod ServedLives
pub mod Sessions
pub mod SideHeard
pub mod Singles
pub mod Slaves
pub mod Speakers
mod States
pub mod Stood
pub mod Told
pub mod ToldLives
pub mod ToldTasks
mod Taken
mod TakenBy
mod TakenNow
mod TakenSo
mod Turned
pub mod Unpassed
pub mod Whole
mod Within
pub mod Words
