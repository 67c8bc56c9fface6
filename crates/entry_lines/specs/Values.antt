-- The lines of a word that is no entry, and of a value that an entry doesn't want.
use Rattle.std.specs.Prelude.{ℕ, ◌-◌, ◌^◌, ◌==◌, false, List, [], ◌++◌, codes, Option, Some, None, if◌then◌else◌}
use Rattle.std.specs.Fmt.{decimal, digits, format_spec, padded_integral}
use Rattle.ecmbx_words.specs.Texts.{four_digits}
use Rattle.value_texts.specs.Texts.{quoted}
use Rattle.value_texts.specs.Types.{type_text}
use Rattle.entry_words.specs.Values.{below_of, most_of}

-- a word that asks for neither an entry nor a file
unfoldable pub bad_what_line : List ℕ → List ℕ
bad_what_line word = quoted word ++ codes " is neither an entry, 2100:01 in hexadecimal digits, nor file:NAME\n"

-- a number in hexadecimal digits, with zeros in front up to two
abbrev pub two_digits : ℕ → List ℕ
two_digits n = padded_integral (format_spec 32 0 4 2 (2 ^ 64 - 1)) false [] (digits 16 false n)

-- an entry by its index and subindex
abbrev pub entry_text : ℕ → ℕ → List ℕ
entry_text index sub = four_digits index ++ (codes ":" ++ two_digits sub)

-- the least number of a data type
unfoldable pub least_text : ℕ → List ℕ
least_text kind = if below_of kind == 0 then codes "0" else codes "-" ++ decimal (below_of kind)

-- the numbers of a data type
unfoldable pub range_text : ℕ → List ℕ
range_text kind = codes "a number from " ++ (least_text kind ++ (codes " to " ++ (decimal (most_of kind) ++ codes " (or hexadecimal, 0x..)")))

-- the values of a data type
unfoldable pub values_text : ℕ → List ℕ
values_text kind =
    if kind == 1 then codes "true or false"
    else if kind == 9 then codes "a text of 1 to 8000 octets"
    else if kind == 10 then codes "pairs of hexadecimal digits, 1 to 8000 octets"
    else range_text kind

-- a data type and its values
unfoldable pub typed : ℕ → List ℕ
typed kind = type_text kind ++ (codes ", " ++ values_text kind)

-- what an entry wants, by its data type, where the plan has one
unfoldable pub wanted : Option ℕ → List ℕ
wanted (Some kind) = typed kind
wanted None = codes "hex: and the octets, since the scenario has no such entry"

-- THE LINE of a value that an entry doesn't want
unfoldable pub bad_value_line : ℕ → ℕ → Option ℕ → List ℕ → List ℕ
bad_value_line index sub kind word =
    codes "the value " ++ (quoted word ++ (codes " isn't what " ++ (entry_text index sub ++ (codes " wants: " ++ (wanted kind ++ codes "\n")))))
