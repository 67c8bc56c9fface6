pub use Rattle.object_dictionary.proofs as of_object_dictionary
pub mod Unread
pub mod Gives
pub mod Fits
pub mod ObjectsAnswer
pub mod ObjectsLaw
pub mod Exchanged
pub mod Firsts
pub mod Segments
