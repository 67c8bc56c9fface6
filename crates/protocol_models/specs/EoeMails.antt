-- The mails between an EoE client and an EoE server, as values.
use Rattle.std.specs.Prelude.{ℕ, ◌-◌, ◌*◌, ◌/◌, Bool, true, false, List, map}
pub use Rattle.eoe.specs.declared.message.Eoe.{Eoe}
pub use Rattle.eoe.specs.declared.message.Eoe.TheVariants.{Fragment as Part, SetIp, SetIpAnswer, GetIp, GetIpAnswer}
pub use Rattle.eoe.specs.declared.message.EoeFault.{EoeFault}
pub use Rattle.eoe.specs.declared.message.EoeFault.TheVariants.{Short, WrongType, Offset}
use Rattle.eoe.specs.declared.message.Fragment.{Fragment}
use Rattle.eoe.specs.Cutting.{fragments_of}

-- what comes to a server or a client
pub data EoeMail : Type 0 where
  -- a mail that reads
  mail : (e : Eoe) → EoeMail
  -- one that does not: its fault, and the type in its first word
  unread : (fault : EoeFault) (kind : ℕ) → EoeMail
  -- an answer of this type with the result 2: the type below isn't served
  unsupported : (kind : ℕ) → EoeMail
  -- a mailbox error
  failed : (detail : ℕ) → EoeMail
  -- a mail of another protocol, or no mail of any, by the octets of its body
  other : (body : List ℕ) → EoeMail

-- a fragment of a packet, as a mail
abbrev pub part : Fragment → EoeMail
part f = mail (Part f)

-- whether a message is a part of a packet
abbrev is_fragment : Eoe → Bool
is_fragment (Part f) = true
is_fragment _ = false

-- whether a server sends it of itself, in reply to nothing
abbrev pub is_emission : EoeMail → Bool
is_emission (mail e) = is_fragment e
is_emission (unread fault kind) = false
is_emission (unsupported kind) = false
is_emission (failed detail) = false
is_emission (other body) = false

-- the mails of a packet with this frame number, through a mailbox of this length: fragments of whole blocks of 32 octets, and the rest
abbrev pub packet_mails : ℕ → List ℕ → ℕ → List EoeMail
packet_mails room octets frame = map part (fragments_of octets (32 * ((room - 10) / 32)) frame)
