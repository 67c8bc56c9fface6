pub use Rattle.capture_view.specs as of_capture_view
pub use Rattle.capture_view.specs.of_mailbox_mail as of_mailbox_mail
pub use Rattle.capture_view.specs.of_pcap_frames as of_pcap_frames
pub mod Access
pub mod Audit
pub mod Causes
pub mod Exchanges
pub mod Judged
pub mod Moves
pub mod Rules
pub mod Seen
