-- Texts in quotes.
use Rattle.std.specs.Prelude.{ℕ, ◌-◌, ◌^◌, ◌==◌, ◌&&◌, ◌||◌, nat_lt, nat_le, Bool, false, List, [], ◌++◌, length, take, min, chars, codes, if◌then◌else◌}
use Rattle.std.specs.List.{flat_map}
use Rattle.std.specs.Char.{encode_utf8}
use Rattle.std.specs.Fmt.{digits, format_spec, padded_integral}

-- a number in hexadecimal digits, with zeros in front up to this width
abbrev pub hex_of : ℕ → ℕ → List ℕ
hex_of width n = padded_integral (format_spec 32 0 4 width (2 ^ 64 - 1)) false [] (digits 16 false n)

-- a character that isn't shown
unfoldable pub is_control : ℕ → Bool
is_control c = nat_lt c 0x20 || (nat_le 0x7F c && nat_le c 0x9F)

-- a character as it stands in quotes
unfoldable pub shown : ℕ → List ℕ
shown c =
    if c == 34 then codes "\\\""
    else if c == 92 then codes "\\\\"
    else if is_control c then codes "\\x" ++ hex_of 2 c
    else encode_utf8 c

-- characters in quotes, the first 40 alone where there are more
unfoldable pub told_of : List ℕ → List ℕ
told_of cs = codes "\"" ++ (flat_map shown (take (min (length cs) 40) cs) ++ (codes "\"" ++ (if nat_lt 40 (length cs) then codes ".." else [])))

-- a text in quotes
unfoldable pub quoted : List ℕ → List ℕ
quoted text = told_of (chars text)
