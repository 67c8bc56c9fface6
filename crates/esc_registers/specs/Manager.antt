use Rattle.std.specs.Prelude.{ℕ, Bool, true, false, not, ◌==◌, ◌&&◌, if◌then◌else◌, List, [], ◌∷◌, ◌++◌, length, slice_index}
use Rattle.byteorder.specs.Endian.{little_bytes}
use Rattle.datagrams.specs.of_ec_fields.Fields.{number_at, bits_of}
use Rattle.esc_registers.specs.declared.manager.Manager.{Manager}

-- bit 0 of activate
abbrev pub is_enabled : ℕ → Bool
is_enabled activate = bits_of activate 0 1 == 1

-- bit 1 of activate, the repeat request
abbrev pub is_repeat_bit : ℕ → Bool
is_repeat_bit activate = bits_of activate 1 1 == 1

-- the two truth values are the same
abbrev pub same : Bool → Bool → Bool
same true b = b
same false b = not b

-- repeat request and acknowledge differ
abbrev pub is_repeat_asked : Manager → Bool
is_repeat_asked m = not (same (is_repeat_bit m.activate) m.acknowledge)

-- the status octet: bit 3 is mailbox full
abbrev pub status_of : Manager → ℕ
status_of m = if m.full then 8 else 0

-- the PDI control octet: bit 1 is the repeat acknowledge
abbrev pub pdi_control_of : Manager → ℕ
pdi_control_of m = if m.acknowledge then 2 else 0

-- the octets of a manager: start, length, control, status, activate, PDI control
abbrev pub manager_text : Manager → List ℕ
manager_text m =
    little_bytes 2 m.start ++ (little_bytes 2 m.length ++ m.control ∷ status_of m ∷ m.activate ∷ pdi_control_of m ∷ [])

-- enabled, with the slave's own start and control and the length of its area
abbrev pub is_right : ℕ → ℕ → Manager → Bool
is_right start control m = m.start == start && m.length == length m.area && m.control == control && is_enabled m.activate

-- a write of activate: the whole octet is kept, and a change of enable clears the full bit
abbrev pub activated : Manager → ℕ → Manager
activated m octet = record m { activate = octet; full = m.full && same (is_enabled octet) (is_enabled m.activate) }

-- a write of the eight octets sets start, length, control and activate
abbrev pub manager_written : Manager → List ℕ → Manager
manager_written m octets =
    activated (record m { start = number_at 2 octets 0; length = number_at 2 octets 2; control = slice_index octets 4 }) (slice_index octets 6)
