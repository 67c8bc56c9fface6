use Rattle.std.specs.Prelude.{◌≡◌, ℕ, ◌+◌, ◌<◌, ◌≤◌, ◌^◌, Bool, false, if◌then◌else◌, List, [], ◌∷◌, ◌++◌, length}
use Rattle.pcap_frames.specs.declared.capture.PacketAt.{PacketAt}
use Rattle.pcap_frames.specs.declared.capture.Stamp.{Stamp}
use Rattle.pcap_frames.specs.declared.order.Order.{Order}
use Rattle.pcap_frames.specs.declared.order.Order.TheVariants.{LowFirst}
use Rattle.pcap_frames.specs.Order.{octets_in}

-- a packet: its time, its octets, and how many it had before it was cut
pub record Packet : Type 0 where
  pub stamp : Stamp
  pub original : ℕ
  pub octets : List ℕ

-- a packet's header, 16 octets, and its octets
abbrev pub packet_text : Order → Packet → List ℕ
packet_text order p =
    octets_in order 4 p.stamp.seconds ++ (octets_in order 4 p.stamp.part ++ (octets_in order 4 (length p.octets)
    ++ (octets_in order 4 p.original ++ p.octets)))

-- the packets, one behind the other
abbrev pub packets_text : Order → List Packet → List ℕ
packets_text order [] = []
packets_text order (p ∷ ps) = packet_text order p ++ packets_text order ps

-- the magic number: a1b2c3d4 stands for microseconds, a1b23c4d for nanoseconds
abbrev pub magic_of : Bool → ℕ
magic_of nanos = if nanos then 2712812621 else 2712847316

-- the 24 octets of a capture's header: magic, version 2.4, ignored octets, link type 1
abbrev pub head_text : Order → Bool → List ℕ → List ℕ
head_text order nanos ignored =
    octets_in order 4 (magic_of nanos) ++ (octets_in order 2 2 ++ (octets_in order 2 4 ++ (ignored ++ octets_in order 4 1)))

-- each field fits its place
pub record IsPacket (p : Packet) : Type 0 where
  pub seconds : p.stamp.seconds < 2 ^ 32
  pub part : p.stamp.part < 2 ^ 32
  pub original : p.original < 2 ^ 32
  pub short : length p.octets ≤ 262144

-- each packet is so
abbrev pub Each : (Packet → Type 0) → List Packet → Type 0
Each P [] = Unit {0}
Each P (p ∷ ps) = P p × Each P ps

-- octets are a capture of these packets: a header in either byte order, and the packets
pub record IsCapture (octets : List ℕ) (nanos : Bool) (packets : List Packet) : Type 0 where
  pub order : Order
  pub ignored : List ℕ
  pub text : octets ≡ head_text order nanos ignored ++ packets_text order packets
  pub twelve : length ignored ≡ 12
  pub sized : Each IsPacket packets

-- each packet with its place, where the header of the first stands at `at`
abbrev pub places_of : ℕ → List Packet → List PacketAt
places_of at [] = []
places_of at (p ∷ ps) =
    (record { stamp = p.stamp; from = at + 16; len = length p.octets; original = p.original })
    ∷ places_of (at + 16 + length p.octets) ps

-- the header that is written: little-endian, microseconds, snap length 65,535
abbrev pub written_head : List ℕ
written_head = head_text LowFirst false (0 ∷ 0 ∷ 0 ∷ 0 ∷ 0 ∷ 0 ∷ 0 ∷ 0 ∷ 255 ∷ 255 ∷ 0 ∷ 0 ∷ [])

-- a packet that is written whole
abbrev pub whole_packet : Stamp → List ℕ → Packet
whole_packet stamp octets = record { stamp = stamp; original = length octets; octets = octets }

-- old is a prefix of new
abbrev pub StartsWith : List ℕ → List ℕ → Type 0
StartsWith old new = (behind : List ℕ) × (new ≡ old ++ behind)

-- a capture that is written: the header, and the packets behind it
abbrev pub saved : List Packet → List ℕ
saved packets = written_head ++ packets_text LowFirst packets
