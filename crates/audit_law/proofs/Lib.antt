pub mod Tracks
pub mod Once
pub mod Stations
pub mod Captures
