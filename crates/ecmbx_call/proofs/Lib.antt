mod Audits
pub mod Courses
pub mod Servings
mod Told
mod Found
mod Ended
mod Endings
pub mod Kept
pub mod Causes
mod Complete
mod Frames
pub mod Calls
mod Words
mod Retold
mod Puts
mod Streams
