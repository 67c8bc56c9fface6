pub use Rattle.datagrams.specs as of_datagrams
pub use Rattle.coe_codec.specs.of_ec_fields as of_ec_fields
pub use Rattle.mailbox_mail.specs as of_mailbox_mail
pub use Rattle.pcap_frames.specs as of_pcap_frames
pub mod Numbers
pub mod Lines
pub mod Bodies
pub mod View
