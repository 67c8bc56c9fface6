-- THE LENGTH IN A FRAME'S HEADER.
use Rattle.std.specs.Prelude.{ℕ, List}
use Rattle.master_side.specs.of_ec_fields.Fields.{number_at, bits_of}

-- the lower eleven bits of its word
abbrev pub frame_size : List ℕ → ℕ
frame_size octets = bits_of (number_at 2 octets 14) 0 11
