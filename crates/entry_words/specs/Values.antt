-- The octets that a word writes for an entry of a data type (CiA 301).
use Rattle.std.specs.Prelude.{ℕ, ◌-◌, ◌^◌, ◌==◌, ◌&&◌, nat_eq, nat_le, List, [], ◌∷◌, codes, length, take, drop, Option, Some, None, option_map, option_and_then, if◌then◌else◌}
use Rattle.std.specs.List.{starts_with}
use Rattle.std.specs.Result.{result_ok}
use Rattle.std.specs.Str.{bytes_eq}
use Rattle.byteorder.specs.Endian.{little_bytes}
use Rattle.hex.specs.Hex.{decode_of}
use Rattle.object_dictionary.specs.Entries.{size_of_kind}
use Rattle.entry_words.specs.Numbers.{number_in, number_word}

-- how far below 0 the least number of a data type is
abbrev pub below_of : ℕ → ℕ
below_of kind =
    if kind == 2 then 0x80
    else if kind == 3 then 0x8000
    else if kind == 4 then 0x80000000
    else if kind == 21 then 0x8000000000000000
    else 0

-- the greatest number of a data type
abbrev pub most_of : ℕ → ℕ
most_of kind =
    if kind == 2 then 0x7F
    else if kind == 3 then 0x7FFF
    else if kind == 4 then 0x7FFFFFFF
    else if kind == 5 then 0xFF
    else if kind == 6 then 0xFFFF
    else if kind == 7 then 0xFFFFFFFF
    else if kind == 21 then 0x7FFFFFFFFFFFFFFF
    else 0xFFFFFFFFFFFFFFFF

-- a number of at most so much
abbrev pub limited : Option ℕ → ℕ → Option ℕ
limited (Some number) most = if nat_le number most then Some number else None
limited None most = None

-- the number so far below 0, in two's complement of 64 bits
abbrev pub negated : Option ℕ → Option ℕ
negated (Some number) = if number == 0 then Some 0 else Some (2 ^ 64 - number)
negated None = None

-- the number of a data type that a word writes, in two's complement of 64 bits
unfoldable pub number_of : ℕ → List ℕ → Option ℕ
number_of kind word =
    if starts_with nat_eq word (codes "-") then negated (limited (number_in 10 (drop 1 word)) (below_of kind))
    else limited (number_word word) (most_of kind)

-- the lowest octets of a number, the lowest one ahead
abbrev pub octets_of : ℕ → ℕ → List ℕ
octets_of size number = take size (little_bytes 8 number)

-- the octets of a number of a data type
unfoldable pub numeric_in : ℕ → List ℕ → Option (List ℕ)
numeric_in kind word = option_map (octets_of (size_of_kind kind)) (number_of kind word)

-- the octet of a BOOLEAN
unfoldable pub boolean_in : List ℕ → Option (List ℕ)
boolean_in word =
    if bytes_eq word (codes "true") then Some (1 ∷ [])
    else if bytes_eq word (codes "false") then Some (0 ∷ [])
    else None

-- the octets that pairs of hexadecimal digits write
abbrev pub pairs_in : List ℕ → Option (List ℕ)
pairs_in digits = result_ok (decode_of digits)

-- so many octets that a download has them
abbrev pub fitting : Option (List ℕ) → Option (List ℕ)
fitting (Some octets) = if nat_le 1 (length octets) && nat_le (length octets) 8000 then Some octets else None
fitting None = None

-- the octets of a value: of a BOOLEAN, a VISIBLE_STRING, an OCTET_STRING or a number
unfoldable pub typed_in : ℕ → List ℕ → Option (List ℕ)
typed_in kind word =
    if kind == 1 then boolean_in word
    else if kind == 9 then Some word
    else if kind == 10 then pairs_in word
    else numeric_in kind word

-- the octets that a word writes, however many: behind hex: pairs of digits, else by the type, where there is one
unfoldable pub untested_in : Option ℕ → List ℕ → Option (List ℕ)
untested_in kind word = if starts_with nat_eq word (codes "hex:") then pairs_in (drop 4 word) else option_and_then (λ k. typed_in k word) kind

-- THE OCTETS THAT A WORD WRITES for an entry of a data type, or of none: 1 to 8,000
unfoldable pub value_in : Option ℕ → List ℕ → Option (List ℕ)
value_in kind word = fitting (untested_in kind word)
