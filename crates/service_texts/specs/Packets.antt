-- Ethernet packets.
use Rattle.std.specs.Prelude.{ℕ, nat_eq, nat_lt, Bool, List, [], ◌∷◌, ◌++◌, length, drop, replicate, codes, if◌then◌else◌}
use Rattle.std.specs.List.{starts_with}
use Rattle.std.specs.Fmt.{decimal}
use Rattle.byteorder.specs.Endian.{big_number}
use Rattle.value_texts.specs.of_reply_text.Reply.{hex_of}
use Rattle.value_texts.specs.Texts.{octets_text}
use Rattle.value_texts.specs.Blocks.{mac_text}

-- a packet for all
abbrev pub is_for_all : List ℕ → Bool
is_for_all octets = starts_with nat_eq octets (replicate 6 255)

-- whom a packet is for
unfoldable pub target_text : List ℕ → List ℕ
target_text octets = if is_for_all octets then codes "all" else mac_text octets 0

-- a packet's type, and how many octets it has
unfoldable pub tail_text : ℕ → ℕ → List ℕ
tail_text kind size = codes ", type " ++ (hex_of 4 kind ++ (codes ", " ++ (decimal size ++ codes " octets")))

-- a packet: destination, source, type, and the rest
unfoldable pub whole_text : List ℕ → List ℕ
whole_text octets = mac_text octets 6 ++ (codes " to " ++ (target_text octets ++ tail_text (big_number 2 (drop 12 octets)) (length octets)))

-- A PACKET by its addresses, type and length, or octets that are too few
unfoldable pub packet_text : List ℕ → List ℕ
packet_text octets = if nat_lt (length octets) 14 then octets_text octets else whole_text octets

-- a packet that is handed over
unfoldable pub gets_text : List ℕ → List ℕ
gets_text octets = codes "gets " ++ packet_text octets
