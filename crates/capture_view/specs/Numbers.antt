-- Numbers in digits.
use Rattle.std.specs.Prelude.{ℕ, ◌-◌, ◌^◌, false, List, []}
use Rattle.std.specs.Fmt.{decimal, digits, format_spec, padded_integral}

-- a number in decimal digits, with zeros in front up to this width
abbrev pub decimal_of : ℕ → ℕ → List ℕ
decimal_of width n = padded_integral (format_spec 32 0 4 width (2 ^ 64 - 1)) false [] (decimal n)

-- a number in hexadecimal digits, with zeros in front up to this width
abbrev pub hex_of : ℕ → ℕ → List ℕ
hex_of width n = padded_integral (format_spec 32 0 4 width (2 ^ 64 - 1)) false [] (digits 16 false n)
