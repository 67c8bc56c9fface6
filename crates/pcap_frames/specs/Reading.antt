use Rattle.std.specs.Prelude.{ℕ, zero, suc, ◌+◌, ◌-◌, ◌==◌, Bool, true, false, not, ◌&&◌, nat_lt, if◌then◌else◌, List, [], ◌∷◌, ◌++◌, length, drop, Result, Ok, Err, Option, None, Some}
use Rattle.pcap_frames.specs.declared.capture.Capture.{Capture}
use Rattle.pcap_frames.specs.declared.capture.PacketAt.{PacketAt}
use Rattle.pcap_frames.specs.declared.capture.PcapFault.{PcapFault}
use Rattle.pcap_frames.specs.declared.capture.PcapFault.TheVariants.{Short, Magic, Version, LinkType, RecordCut, RecordTooLong, NoMemory}
use Rattle.pcap_frames.specs.declared.order.Order.{Order}
use Rattle.pcap_frames.specs.declared.order.Order.TheVariants.{LowFirst, HighFirst}
use Rattle.pcap_frames.specs.Capture.{magic_of}
use Rattle.pcap_frames.specs.Order.{number_in}

-- the byte order and the resolution that a magic number stands for
abbrev pub magic_in : List ℕ → Option (Order × Bool)
magic_in octets =
    if number_in LowFirst 4 octets 0 == magic_of false then Some (LowFirst, false)
    else if number_in LowFirst 4 octets 0 == magic_of true then Some (LowFirst, true)
    else if number_in HighFirst 4 octets 0 == magic_of false then Some (HighFirst, false)
    else if number_in HighFirst 4 octets 0 == magic_of true then Some (HighFirst, true)
    else None

-- the length that a packet's header says
abbrev pub captured_in : Order → List ℕ → ℕ
captured_in order octets = number_in order 4 octets 8

-- the packet whose header begins here, at place `at` of the file
abbrev pub packet_at : Order → ℕ → List ℕ → PacketAt
packet_at order at octets = record {
  stamp = record { seconds = number_in order 4 octets 0; part = number_in order 4 octets 4 };
  from = at + 16;
  len = captured_in order octets;
  original = number_in order 4 octets 12;
}

-- the packet that begins here, or its fault
abbrev pub packet_read : Order → ℕ → List ℕ → Result PacketAt PcapFault
packet_read order at octets =
    if nat_lt (length octets) 16 then Err (RecordCut at)
    else if nat_lt 262144 (captured_in order octets) then Err (RecordTooLong at)
    else if nat_lt (length octets - 16) (captured_in order octets) then Err (RecordCut at)
    else Ok (packet_at order at octets)

-- packets in front of what a reader finds behind them
abbrev pub with_packets : List PacketAt → Result (List PacketAt) PcapFault → Result (List PacketAt) PcapFault
with_packets front (Ok packets) = Ok (front ++ packets)
with_packets front (Err fault) = Err fault

-- a packet that was read, or its fault, with what is found behind it
abbrev pub joined : Result PacketAt PcapFault → Result (List PacketAt) PcapFault → Result (List PacketAt) PcapFault
joined (Ok packet) behind = with_packets (packet ∷ []) behind
joined (Err fault) behind = Err fault

-- what a reader finds from place `at` on in the octets that are left, of which there are at most `most`
abbrev pub packets_within : Order → ℕ → ℕ → List ℕ → Result (List PacketAt) PcapFault
packets_within order zero at octets = Ok []
packets_within order (suc most) at octets =
    if length octets == 0 then Ok []
    else joined (packet_read order at octets)
    (packets_within order most (at + 16 + captured_in order octets) (drop (16 + captured_in order octets) octets))

-- the same as a capture
abbrev pub capture_of : Bool → Result (List PacketAt) PcapFault → Result Capture PcapFault
capture_of nanos (Ok packets) = Ok (record { nanos = nanos; packets = packets })
capture_of nanos (Err fault) = Err fault

-- what octets read as, in the byte order and the resolution of their magic number
abbrev pub capture_by : List ℕ → Option (Order × Bool) → Result Capture PcapFault
capture_by octets None = Err Magic
capture_by octets (Some m) =
    if not (number_in m.0 2 octets 4 == 2 && number_in m.0 2 octets 6 == 4) then Err Version
    else if not (number_in m.0 4 octets 20 == 1) then Err LinkType
    else capture_of m.1 (packets_within m.0 (length octets) 24 (drop 24 octets))

-- what octets read as: a capture, or the first fault
abbrev pub capture_read : List ℕ → Result Capture PcapFault
capture_read octets =
    if nat_lt (length octets) 24 then Err (Short (length octets)) else capture_by octets (magic_in octets)

-- a fact that holds unless memory was wanting
abbrev pub UnlessNoMemory : {T : Type 0} → Result T PcapFault → Type 0 → Type 0
UnlessNoMemory (Ok x) P = P
UnlessNoMemory (Err (Short at)) P = P
UnlessNoMemory (Err Magic) P = P
UnlessNoMemory (Err Version) P = P
UnlessNoMemory (Err LinkType) P = P
UnlessNoMemory (Err (RecordCut at)) P = P
UnlessNoMemory (Err (RecordTooLong at)) P = P
UnlessNoMemory (Err NoMemory) P = Unit {0}
