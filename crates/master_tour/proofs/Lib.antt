pub use Rattle.master_side.proofs.of_frame_view as of_frame_view
pub use Rattle.master_side.proofs.of_life_model as of_life_model
pub use Rattle.master_side.proofs as of_master_side
pub mod Unders
pub mod Visits
pub mod Walks
pub mod Frames
pub mod Cursors
pub mod Openings
pub mod Backs
pub mod Grams
pub mod Steps
pub mod Mades
pub mod Sents
pub mod Orders
pub mod Firsts
pub mod Counts
pub mod Unpassed
pub mod Passings
pub mod Goes
pub mod Joins
pub mod Sizes
pub mod Rooms
pub mod Behinds
pub mod Counting
pub mod FirstRooms
