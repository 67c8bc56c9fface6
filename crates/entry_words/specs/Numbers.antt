-- Numbers in words.
use Rattle.std.specs.Prelude.{ℕ, ◌+◌, ◌-◌, ◌*◌, ◌^◌, ◌==◌, ◌&&◌, nat_eq, nat_le, nat_lt, Bool, List, codes, length, drop, fold, Option, Some, None, if◌then◌else◌}
use Rattle.std.specs.List.{starts_with}

-- the value of a hexadecimal digit
abbrev pub digit_in : ℕ → Option ℕ
digit_in octet =
    if nat_le 48 octet && nat_le octet 57 then Some (octet - 48)
    else if nat_le 65 octet && nat_le octet 70 then Some (octet - 65 + 10)
    else if nat_le 97 octet && nat_le octet 102 then Some (octet - 97 + 10)
    else None

-- a number with one more digit behind it, where it stays below 2 to the power 64
abbrev pub grown : ℕ → ℕ → ℕ → Option ℕ
grown radix before digit = if nat_lt (before * radix + digit) (2 ^ 64) then Some (before * radix + digit) else None

-- the same where there is a number and a digit of the radix
abbrev pub grown_by : ℕ → Option ℕ → Option ℕ → Option ℕ
grown_by radix (Some before) (Some digit) = if nat_lt digit radix then grown radix before digit else None
grown_by radix _ _ = None

-- the same of an octet
abbrev pub with_digit : ℕ → Option ℕ → ℕ → Option ℕ
with_digit radix before octet = grown_by radix before (digit_in octet)

-- the number that digits of a radix write, where they are some and it is below 2 to the power 64
unfoldable pub number_in : ℕ → List ℕ → Option ℕ
number_in radix digits = if length digits == 0 then None else fold (with_digit radix) (Some 0) digits

-- a word begins as a hexadecimal number
abbrev pub is_hexadecimal : List ℕ → Bool
is_hexadecimal word = starts_with nat_eq word (codes "0x")

-- the number that a word writes, in decimal digits or in hexadecimal ones behind 0x
abbrev pub number_word : List ℕ → Option ℕ
number_word word = if is_hexadecimal word then number_in 16 (drop 2 word) else number_in 10 word
