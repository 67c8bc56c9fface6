pub mod Services
pub mod Gives
pub mod Answered
pub mod Speaking
pub mod Slave
pub mod Concluded
