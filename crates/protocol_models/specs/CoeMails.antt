-- The mails between a CoE client and a CoE server, as values.
use Rattle.std.specs.Prelude.{ℕ, Bool, true, false, List}
pub use Rattle.coe_codec.specs.declared.message.Coe.{Coe}
pub use Rattle.coe_codec.specs.declared.message.Coe.TheVariants.{Emergency, Expedited, First, Upload, DownloadAnswer, ExpeditedAnswer, FirstAnswer, Segment, SegmentAnswer, UploadSegment, UploadSegmentAnswer, Abort, ListRequest, ObjectRequest, EntryRequest, Information, InformationError}
pub use Rattle.coe_codec.specs.declared.message.CoeFault.{CoeFault}
pub use Rattle.coe_codec.specs.declared.message.CoeFault.TheVariants.{Short, Service, Command, Size}

-- a mail to CoE: a message, a body that does not read, a mailbox error, or one of EoE or of another protocol
pub data CoeMail : Type 0 where
  -- a mail that reads
  mail : (c : Coe) → CoeMail
  -- one that does not: its fault, the service in its header, and what stands at the places of index and subindex
  unread : (fault : CoeFault) (service index sub : ℕ) → CoeMail
  -- a mailbox error
  failed : (detail : ℕ) → CoeMail
  -- an EoE mail that a download has emitted: a fragment of a packet, by the octets of its body
  fragment : (body : List ℕ) → CoeMail
  -- a mail of another protocol, or no mail of any, by the octets of its body
  other : (body : List ℕ) → CoeMail

-- whether a message is an emergency
abbrev is_emergency : Coe → Bool
is_emergency (Emergency octets) = true
is_emergency _ = false

-- whether a server sends it of itself, in reply to nothing
abbrev pub is_emission : CoeMail → Bool
is_emission (mail c) = is_emergency c
is_emission (unread fault service index sub) = false
is_emission (failed detail) = false
is_emission (fragment body) = true
is_emission (other body) = false
