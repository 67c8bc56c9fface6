pub use Rattle.segment_plan.specs as of_segment_plan
pub mod Losses
pub mod Few
pub mod Numbers
pub mod Promise
pub mod Slaves
pub mod Summary
