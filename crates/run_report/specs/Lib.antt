pub use Rattle.pcap_frames.specs as of_pcap_frames
pub use Rattle.run_book.specs as of_run_book
pub mod Report
pub mod Drops
pub mod Saved
