pub mod Rings
pub mod Schedules
