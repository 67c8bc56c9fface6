pub mod Packets
pub mod Telling
pub mod Walk
pub mod Within
pub mod Digits
