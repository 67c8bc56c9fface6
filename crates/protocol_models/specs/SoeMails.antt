-- The mails between an SoE client and an SoE server, as values.
use Rattle.std.specs.Prelude.{ℕ, zero, suc, ◌+◌, ◌-◌, ◌/◌, nat_le, Bool, true, false, List, [], ◌∷◌, length, take, drop, if◌then◌else◌}
use Rattle.byteorder.specs.Endian.{little_bytes}
pub use Rattle.soe_codec.specs.declared.message.Soe.{Soe}
pub use Rattle.soe_codec.specs.declared.message.SoeFault.{SoeFault}
pub use Rattle.soe_codec.specs.declared.message.SoeFault.TheVariants.{Short, Opcode, Incomplete}
use Rattle.protocol_models.specs.Elements.{Target}

-- what comes to a server or a client
pub data SoeMail : Type 0 where
  -- a mail that reads
  mail : (s : Soe) → SoeMail
  -- one that does not: its fault, and the incomplete bit in its word
  unread : (fault : SoeFault) (incomplete : Bool) → SoeMail
  -- a mailbox error
  failed : (detail : ℕ) → SoeMail
  -- a mail of another protocol, or no mail of any, by the octets of its body
  other : (body : List ℕ) → SoeMail

-- an SoE server sends nothing of itself
abbrev pub is_emission : SoeMail → Bool
is_emission m = false

-- a message about an element; field is the IDN, or how many fragments follow
abbrev pub message : ℕ → Bool → Target → ℕ → List ℕ → Soe
message opcode incomplete t field bytes = record {
  opcode = opcode;
  incomplete = incomplete;
  error = false;
  drive = t.drive;
  elements = t.elements;
  field = field;
  bytes = record { items = bytes };
}

-- a refusal by a code of 16 bits, with the flags and the IDN of the request
abbrev pub refusal : ℕ → Target → ℕ → Soe
refusal opcode t code = record (message opcode false t t.idn (little_bytes 2 code)) { error = true }

-- how many parts of this length hold so many octets
abbrev pub parts_of : ℕ → ℕ → ℕ
parts_of part octets = (octets + part - 1) / part

-- the octets of an element in fragments of this length, the last of which is complete; each other says how many follow. fuel is more than the
-- number of octets
abbrev pub fragments : ℕ → ℕ → Target → ℕ → List ℕ → List SoeMail
fragments zero opcode t part bytes = []
fragments (suc fuel) opcode t part bytes =
    if nat_le (length bytes) part then mail (message opcode false t t.idn bytes) ∷ []
    else mail (message opcode true t (parts_of part (length bytes - part)) (take part bytes)) ∷ fragments fuel opcode t part (drop part bytes)

-- the octets of an element as a message of this opcode, through a mailbox of this length
abbrev pub fragments_of : ℕ → ℕ → Target → List ℕ → List SoeMail
fragments_of room opcode t bytes = fragments (suc (length bytes)) opcode t (room - 10) bytes
