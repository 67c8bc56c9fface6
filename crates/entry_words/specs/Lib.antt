pub use Rattle.segment_plan.specs as of_segment_plan
pub mod Numbers
pub mod What
pub mod Values
pub mod Slaves
