pub use Rattle.reply_text.specs as of_reply_text
pub use Rattle.segment_plan.specs as of_segment_plan
pub mod Texts
pub mod Types
pub mod Values
pub mod Names
pub mod Whole
pub mod Lists
pub mod Infos
pub mod Idns
pub mod Blocks
