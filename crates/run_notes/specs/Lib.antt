pub use Rattle.run_book.specs as of_run_book
pub mod Notes
pub mod Unsent
pub mod Rising
pub mod Counted
pub mod Times
pub mod Epochs
pub mod Heard
pub mod Reports
pub mod Handed
pub mod Packets
pub mod Switched
pub mod Slaves
pub mod Stays
