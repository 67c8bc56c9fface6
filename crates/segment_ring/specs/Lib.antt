pub mod Schedule
pub mod Ring
