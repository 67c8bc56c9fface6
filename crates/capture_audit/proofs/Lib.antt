pub mod Causes
mod Frames
mod Keyed
mod Steps
mod Walk
