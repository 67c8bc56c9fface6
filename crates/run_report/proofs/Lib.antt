pub use Rattle.pcap_frames.proofs as of_pcap_frames
pub mod Dropped
pub mod Pushed
pub mod Saves
