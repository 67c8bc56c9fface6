use Rattle.std.specs.Prelude.{ℕ, List, drop}
use Rattle.byteorder.specs.Endian.{big_number, big_bytes, little_bytes}
use Rattle.ec_fields.specs.Fields.{number_at}
use Rattle.capture_blocks.specs.declared.order.Order.{Order}
use Rattle.capture_blocks.specs.declared.order.Order.TheVariants.{LowFirst, HighFirst}

-- the number in the n octets from a place, in a byte order
abbrev pub number_in : Order → ℕ → List ℕ → ℕ → ℕ
number_in LowFirst n octets at = number_at n octets at
number_in HighFirst n octets at = big_number n (drop at octets)

-- the n octets of a number, in a byte order
abbrev pub octets_in : Order → ℕ → ℕ → List ℕ
octets_in LowFirst n v = little_bytes n v
octets_in HighFirst n v = big_bytes n v
