use Rattle.std.specs.Prelude.{◌≡◌, ℕ, ◌+◌, ◌*◌, ◌<◌, ◌≤◌, ◌^◌, List, [], ◌∷◌, ◌++◌, length}
use Rattle.capture_blocks.specs.Order.{octets_in}
use Rattle.capture_records.specs.declared.packet.FileEnd.{FileEnd}
use Rattle.capture_records.specs.declared.packet.FileEnd.TheVariants.{Whole, Cut, Damaged}
use Rattle.capture_records.specs.declared.packet.PacketAt.{PacketAt}
use Rattle.capture_records.specs.declared.records.Form.{Form}
use Rattle.capture_records.specs.declared.records.Records.{Records}
use Rattle.capture_records.specs.Records.{captured_in}

-- a packet of a pcap file: seconds and a part of a second, how many octets it had, octets that are ignored, and its own
pub record Record : Type 0 where
  pub seconds : ℕ
  pub part : ℕ
  pub original : ℕ
  pub ignored : List ℕ
  pub octets : List ℕ

-- a packet's header and its octets
abbrev pub record_text : Form → Record → List ℕ
record_text form r =
    octets_in form.order 4 r.seconds ++ (octets_in form.order 4 r.part ++ (octets_in form.order 4 (length r.octets)
    ++ (octets_in form.order 4 r.original ++ (r.ignored ++ r.octets))))

-- the packets, one behind the other
abbrev pub records_text : Form → List Record → List ℕ
records_text form [] = []
records_text form (r ∷ rs) = record_text form r ++ records_text form rs

-- each field fits its place
pub record IsRecord (form : Form) (r : Record) : Type 0 where
  pub seconds : r.seconds < 2 ^ 32
  pub part : r.part < 2 ^ 32
  pub original : r.original < 2 ^ 32
  pub ignored : 16 + length r.ignored ≡ form.head
  pub short : length r.octets ≤ 262144

-- each packet is so
abbrev pub AreRecords : Form → List Record → Type 0
AreRecords form [] = Unit {0}
AreRecords form (r ∷ rs) = IsRecord form r × AreRecords form rs

-- the packet whose header stands at a place
abbrev pub packet_of : Form → ℕ → Record → PacketAt
packet_of form at r = record {
  link = 1;
  time = r.seconds * 1000000000 + r.part * form.unit;
  from = at + form.head;
  len = length r.octets;
  original = r.original;
}

-- each packet with its place, where the header of the first stands at `at`
abbrev pub packets_of : Form → ℕ → List Record → List PacketAt
packets_of form at [] = []
packets_of form at (r ∷ rs) = packet_of form at r ∷ packets_of form (at + (form.head + length r.octets)) rs

-- what is left at place `at` ends a file so: nothing; fewer octets than a header or a packet has; a length above 262,144
abbrev pub Ends : Form → ℕ → List ℕ → FileEnd → Type 0
Ends form at left Whole = left ≡ []
Ends form at left (Cut place) = (place ≡ at) × (0 < length left) × (form.head ≤ length left → length left < form.head + captured_in form left)
Ends form at left (Damaged place) = (place ≡ at) × (form.head ≤ length left) × (262144 < captured_in form left)

-- octets from place `at` on hold these packets and this end
pub record AreRead (form : Form) (at : ℕ) (octets : List ℕ) (found : Records) : Type 0 where
  pub records : List Record
  pub left : List ℕ
  pub text : octets ≡ records_text form records ++ left
  pub sized : AreRecords form records
  pub packets : found.packets ≡ packets_of form at records
  pub ends : Ends form (at + length (records_text form records)) left found.end
