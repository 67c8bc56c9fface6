use Rattle.std.specs.Prelude.{ℕ, zero, suc, ◌+◌, ◌*◌, ◌-◌, ◌==◌, nat_lt, if◌then◌else◌, List, [], ◌∷◌, ◌++◌, length, drop, Option, None, Some, Result, Ok, Err}
use Rattle.capture_blocks.specs.declared.order.Order.{Order}
use Rattle.capture_blocks.specs.declared.order.Order.TheVariants.{LowFirst, HighFirst}
use Rattle.capture_blocks.specs.Order.{number_in}
use Rattle.capture_records.specs.declared.packet.FileEnd.{FileEnd}
use Rattle.capture_records.specs.declared.packet.FileEnd.TheVariants.{Whole, Cut, Damaged}
use Rattle.capture_records.specs.declared.packet.PacketAt.{PacketAt}
use Rattle.capture_records.specs.declared.records.Form.{Form}
use Rattle.capture_records.specs.declared.records.Records.{Records}

-- the magic numbers: a1b2c3d4 of microseconds, a1b23c4d of nanoseconds, a1b2cd34 of microseconds with 8 octets more before a packet's own
abbrev pub form_by : Order → ℕ → Option Form
form_by order magic =
    if magic == 2712847316 then Some (record { order = order; unit = 1000; head = 16 })
    else if magic == 2712812621 then Some (record { order = order; unit = 1; head = 16 })
    else if magic == 2712849716 then Some (record { order = order; unit = 1000; head = 24 }) else None

-- the first of two, the second where there is none
abbrev pub first_of : Option Form → Option Form → Option Form
first_of None other = other
first_of (Some form) other = Some form

-- the form of a file, by its magic number in either byte order
abbrev pub form_in : List ℕ → Option Form
form_in octets = first_of (form_by LowFirst (number_in LowFirst 4 octets 0)) (form_by HighFirst (number_in HighFirst 4 octets 0))

-- the length that a packet's header says
abbrev pub captured_in : Form → List ℕ → ℕ
captured_in form octets = number_in form.order 4 octets 8

-- the packet whose header begins here, at place `at` of the file
abbrev pub packet_at : Form → ℕ → List ℕ → PacketAt
packet_at form at octets = record {
  link = 1;
  time = number_in form.order 4 octets 0 * 1000000000 + number_in form.order 4 octets 4 * form.unit;
  from = at + form.head;
  len = captured_in form octets;
  original = number_in form.order 4 octets 12;
}

-- the packet that begins here, or the file's end
abbrev pub record_read : Form → ℕ → List ℕ → Result PacketAt FileEnd
record_read form at octets =
    if length octets == 0 then Err Whole
    else if nat_lt (length octets) form.head then Err (Cut at)
    else if nat_lt 262144 (captured_in form octets) then Err (Damaged at)
    else if nat_lt (length octets - form.head) (captured_in form octets) then Err (Cut at)
    else Ok (packet_at form at octets)

-- a packet behind others, and what is found behind it; or the end behind the others
abbrev pub joined : List PacketAt → (PacketAt → Records) → Result PacketAt FileEnd → Records
joined before on (Ok packet) = on packet
joined before on (Err end) = record { packets = before; end = end }

-- what a reader finds from place `at` on, behind the packets before it, in the octets that are left, of which there are at most `most`
abbrev pub records_within : Form → ℕ → List PacketAt → ℕ → List ℕ → Records
records_within form zero before at octets = record { packets = before; end = Whole }
records_within form (suc most) before at octets =
    joined before (λ p. records_within form most (before ++ p ∷ []) (at + (form.head + p.len)) (drop (form.head + p.len) octets)) (record_read form at octets)

-- what octets from place `at` on read as
abbrev pub records_read : Form → ℕ → List ℕ → Records
records_read form at octets = records_within form (length octets) [] at octets
