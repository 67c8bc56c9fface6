use Rattle.std.specs.Prelude.{ℕ, ◌+◌, ◌*◌, ◌/◌, ◌%◌, ◌^◌, List, ◌++◌, take, drop}
use Rattle.byteorder.specs.Endian.{little_number, little_bytes}

-- the number in the n octets from a place, the lowest octet first
abbrev pub number_at : ℕ → List ℕ → ℕ → ℕ
number_at n octets at = little_number n (drop at octets)

-- the octets with the number written into the n octets from a place
abbrev pub number_put : ℕ → List ℕ → ℕ → ℕ → List ℕ
number_put n octets at value = take at octets ++ (little_bytes n value ++ drop (at + n) octets)

-- the field of `count` bits of a word whose lowest bit is bit `low`
abbrev pub bits_of : ℕ → ℕ → ℕ → ℕ
bits_of word low count = word / 2 ^ low % 2 ^ count

-- the word with the field of `count` bits from bit `low` replaced
abbrev pub bits_put : ℕ → ℕ → ℕ → ℕ → ℕ
bits_put word low count value = word % 2 ^ low + value * 2 ^ low + word / 2 ^ (low + count) * 2 ^ (low + count)
