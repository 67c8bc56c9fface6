-- The mails between an FoE client and an FoE server, as values.
use Rattle.std.specs.Prelude.{ℕ, Bool, false, List}
pub use Rattle.foe_codec.specs.declared.message.Foe.{Foe}
pub use Rattle.foe_codec.specs.declared.message.Foe.TheVariants.{Read, Write, Data, Ack, Error, Busy}
pub use Rattle.foe_codec.specs.declared.message.FoeFault.{FoeFault}
pub use Rattle.foe_codec.specs.declared.message.FoeFault.TheVariants.{Short, Opcode, Name}

-- what comes to a server or a client
pub data FoeMail : Type 0 where
  -- a mail that reads
  mail : (f : Foe) → FoeMail
  -- one that does not
  unread : (fault : FoeFault) → FoeMail
  -- a mailbox error
  failed : (detail : ℕ) → FoeMail
  -- a mail of another protocol, or no mail of any, by the octets of its body
  other : (body : List ℕ) → FoeMail

-- an FoE server sends nothing of itself
abbrev pub is_emission : FoeMail → Bool
is_emission m = false
