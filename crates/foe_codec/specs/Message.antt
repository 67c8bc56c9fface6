use Rattle.std.specs.Prelude.{◌≡◌, ℕ, ◌+◌, ◌*◌, ◌/◌, ◌%◌, ◌<◌, ◌≤◌, ◌^◌, Bool, true, ◌&&◌, ◌==◌, nat_le, nat_lt, if◌then◌else◌, List, [], ◌∷◌, ◌++◌, length, drop, slice_index, Result, Ok, Err}
use Rattle.byteorder.specs.Endian.{little_bytes}
use Rattle.ec_fields.specs.Fields.{number_at}
use Rattle.foe_codec.specs.declared.message.Foe.{Foe}
use Rattle.foe_codec.specs.declared.message.Foe.TheVariants.{Read, Write, Data, Ack, Error, Busy}
use Rattle.foe_codec.specs.declared.message.FoeFault.{FoeFault}
use Rattle.foe_codec.specs.declared.message.FoeFault.TheVariants.{Short, Opcode, Name}

-- a name has 1 to 32 octets
abbrev pub is_name : List ℕ → Bool
is_name octets = nat_le 1 (length octets) && nat_le (length octets) 32

-- what opcode, field and the octets behind them say: a password and a name, a packet and its octets, an acknowledged packet, an error code,
-- or what is done (the field's low 16 bits) of the entire (its high ones)
abbrev pub Says : ℕ → ℕ → List ℕ → Foe → Type 0
Says opcode field rest (Read pass name) = (opcode ≡ 1) × (field ≡ pass) × (rest ≡ name.items) × (is_name rest ≡ true)
Says opcode field rest (Write pass name) = (opcode ≡ 2) × (field ≡ pass) × (rest ≡ name.items) × (is_name rest ≡ true)
Says opcode field rest (Data packet bytes) = (opcode ≡ 3) × (field ≡ packet) × (rest ≡ bytes.items)
Says opcode field rest (Ack packet) = (opcode ≡ 4) × (field ≡ packet)
Says opcode field rest (Error code) = (opcode ≡ 5) × (field ≡ code)
Says opcode field rest (Busy done entire) = (opcode ≡ 6) × (field % 65536 ≡ done) × (field / 65536 ≡ entire)

-- the FoE grammar: an opcode, a reserved octet, a field of four octets, and the octets behind it
pub record IsFoe (body : List ℕ) (foe : Foe) : Type 0 where
  pub opcode : ℕ
  pub reserved : ℕ
  pub field : ℕ
  pub rest : List ℕ
  pub text : body ≡ opcode ∷ reserved ∷ (little_bytes 4 field ++ rest)
  pub field_fits : field < 2 ^ 32
  pub says : Says opcode field rest foe

-- a message with a name, or the fault of its name
abbrev pub named : List ℕ → Foe → Result Foe FoeFault
named rest foe = if is_name rest then Ok foe else Err Name

-- the message that opcode, field and the octets behind them spell, or its fault
abbrev pub message_in : ℕ → ℕ → List ℕ → Result Foe FoeFault
message_in opcode field rest =
    if opcode == 1 then named rest (Read field (record { items = rest }))
    else if opcode == 2 then named rest (Write field (record { items = rest }))
    else if opcode == 3 then Ok (Data field (record { items = rest }))
    else if opcode == 4 then Ok (Ack field)
    else if opcode == 5 then Ok (Error field)
    else if opcode == 6 then Ok (Busy (field % 65536) (field / 65536))
    else Err Opcode

-- what a body reads as
abbrev pub foe_read : List ℕ → Result Foe FoeFault
foe_read body =
    if nat_lt (length body) 6 then Err Short else message_in (slice_index body 0) (number_at 4 body 2) (drop 6 body)

-- the opcode of a message
abbrev pub opcode_of : Foe → ℕ
opcode_of (Read pass name) = 1
opcode_of (Write pass name) = 2
opcode_of (Data packet bytes) = 3
opcode_of (Ack packet) = 4
opcode_of (Error code) = 5
opcode_of (Busy done entire) = 6

-- its field
abbrev pub field_of : Foe → ℕ
field_of (Read pass name) = pass
field_of (Write pass name) = pass
field_of (Data packet bytes) = packet
field_of (Ack packet) = packet
field_of (Error code) = code
field_of (Busy done entire) = done + 65536 * entire

-- the octets behind the field; error and busy texts are written empty
abbrev pub octets_of : Foe → List ℕ
octets_of (Read pass name) = name.items
octets_of (Write pass name) = name.items
octets_of (Data packet bytes) = bytes.items
octets_of _ = []

-- the one spelling of a message
abbrev pub foe_text : Foe → List ℕ
foe_text foe = opcode_of foe ∷ 0 ∷ (little_bytes 4 (field_of foe) ++ octets_of foe)

-- a message that has a spelling: its name isn't empty
abbrev pub IsSpellable : Foe → Type 0
IsSpellable (Read pass name) = 1 ≤ length name.items
IsSpellable (Write pass name) = 1 ≤ length name.items
IsSpellable _ = Unit {0}

-- the ranges of a message's numbers
abbrev pub IsRanged : Foe → Type 0
IsRanged (Read pass name) = pass < 2 ^ 32
IsRanged (Write pass name) = pass < 2 ^ 32
IsRanged (Data packet bytes) = packet < 2 ^ 32
IsRanged (Ack packet) = packet < 2 ^ 32
IsRanged (Error code) = code < 2 ^ 32
IsRanged (Busy done entire) = (done < 65536) × (entire < 65536)
