-- What a slave sends back: a packet of EtherType 88B5 goes back to its source.
use Rattle.std.specs.Prelude.{ℕ, ◌==◌, ◌&&◌, ◌||◌, nat_le, Bool, List, [], ◌∷◌, ◌++◌, take, drop, length, slice_index, if◌then◌else◌, Option, Some, None}
use Rattle.std.specs.Str.{bytes_eq}

-- the MAC address that means all
abbrev pub everyone : List ℕ
everyone = 255 ∷ 255 ∷ 255 ∷ 255 ∷ 255 ∷ 255 ∷ []

-- a packet of EtherType 88B5 to the slave or to all
abbrev pub is_echo : List ℕ → List ℕ → Bool
is_echo mac octets =
    nat_le (length octets) 1514
    && (nat_le 14 (length octets) && (slice_index octets 12 == 0x88 && (slice_index octets 13 == 0xB5
    && (bytes_eq (take 6 octets) mac || bytes_eq (take 6 octets) everyone))))

-- the packet that the slave sends on a packet: back to its source, from the slave's address, with EtherType 88B6
abbrev pub echo_of : List ℕ → List ℕ → Option (List ℕ)
echo_of mac octets =
    if is_echo mac octets then Some (take 6 (drop 6 octets) ++ (mac ++ 0x88 ∷ 0xB6 ∷ drop 14 octets)) else None
