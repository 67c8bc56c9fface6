pub mod NewFiles
pub mod NewIdns
