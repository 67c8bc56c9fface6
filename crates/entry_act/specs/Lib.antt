pub use Rattle.entry_lines.specs as of_entry_lines
pub use Rattle.entry_words.specs as of_entry_words
pub use Rattle.gateway_tool.specs as of_gateway_tool
pub mod Words
pub mod Acts
