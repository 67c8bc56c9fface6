pub mod Told
pub mod Possible
pub mod Openings
pub mod Laws
