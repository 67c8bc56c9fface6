use Rattle.std.specs.Prelude.{◌≡◌, ℕ, ◌+◌, ◌*◌, ◌/◌, ◌%◌, ◌≤◌, ◌==◌, ◌||◌, Bool, true, not, nat_lt, if◌then◌else◌, min, max, List, [], ◌∷◌, ◌++◌, length, drop, slice_index, Option, None, Some}
use Rattle.byteorder.specs.Endian.{big_number, big_bytes}
use Rattle.ethercat_places.specs.declared.place.Place.{Place}

-- the number in the two octets from a place, the higher first
abbrev pub word_at : List ℕ → ℕ → ℕ
word_at octets at = big_number 2 (drop at octets)

-- the EtherTypes of VLAN tags: 8100, 88A8 and 9100
abbrev pub is_tag : ℕ → Bool
is_tag ether_type = ether_type == 33024 || ether_type == 34984 || ether_type == 37120

-- the place behind the tag that stands at a place, the place itself where none does
abbrev pub behind_tag : List ℕ → ℕ → ℕ
behind_tag octets at =
    if nat_lt (length octets) (at + 4) then at else if is_tag (word_at octets at) then at + 4 else at

-- the place of the EtherType: behind the addresses and at most two tags
abbrev pub type_place : List ℕ → ℕ
type_place octets = behind_tag octets (behind_tag octets 12)

-- the place of the UDP head behind an IPv4 head at a place: version 4, five words or more, protocol 17, no fragment
abbrev pub udp_place : List ℕ → ℕ → Option ℕ
udp_place octets at =
    if nat_lt (length octets) (at + 20) then None
    else if not (slice_index octets at / 16 == 4) || nat_lt (slice_index octets at % 16) 5 then None
    else if not (slice_index octets (at + 9) == 17) || not (word_at octets (at + 6) % 16384 == 0) then None
    else Some (at + 4 * (slice_index octets at % 16))

-- EtherCAT behind a UDP head: one of its ports is 34980; it ends with the UDP length or the packet
abbrev pub place_behind : List ℕ → Option ℕ → Option Place
place_behind octets None = None
place_behind octets (Some udp) =
    if nat_lt (length octets) (udp + 8) then None
    else if word_at octets udp == 34980 || word_at octets (udp + 2) == 34980
    then Some (record { from = udp + 8; to = min (length octets) (max (udp + 8) (udp + word_at octets (udp + 4))) })
    else None

-- EtherCAT behind an EtherType: 88A4, or 0800 and UDP
abbrev pub place_at : List ℕ → ℕ → Option Place
place_at octets at =
    if nat_lt (length octets) (at + 2) then None
    else if word_at octets at == 34980 then Some (record { from = at + 2; to = length octets })
    else if word_at octets at == 2048 then place_behind octets (udp_place octets (at + 2)) else None

-- where EtherCAT stands in a packet
abbrev pub place_of : List ℕ → Option Place
place_of octets = place_at octets (type_place octets)

-- a VLAN tag: its EtherType and its control word
pub record Tag : Type 0 where
  pub ether_type : ℕ
  pub control : ℕ

-- the octets of tags
abbrev pub tags_text : List Tag → List ℕ
tags_text [] = []
tags_text (t ∷ ts) = big_bytes 2 t.ether_type ++ (big_bytes 2 t.control ++ tags_text ts)

-- each has the EtherType of a tag
abbrev pub AreTags : List Tag → Type 0
AreTags [] = Unit {0}
AreTags (t ∷ ts) = (is_tag t.ether_type ≡ true) × AreTags ts

-- a packet of EtherCAT: two addresses, at most two tags, EtherType 88A4, and what follows
pub record IsTagged (octets : List ℕ) (tags : List Tag) (payload : List ℕ) : Type 0 where
  pub addresses : List ℕ
  pub text : octets ≡ addresses ++ (tags_text tags ++ (136 ∷ 164 ∷ payload))
  pub twelve : length addresses ≡ 12
  pub named : AreTags tags
  pub two : length tags ≤ 2
