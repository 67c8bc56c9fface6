-- What is told of a value.
use Rattle.std.specs.Prelude.{ℕ, ℤ, pos, negsuc, ◌&&◌, ◌||◌, nat_le, Bool, true, false, List, [], ◌∷◌, ◌++◌, length, codes, decimal, if◌then◌else◌}
use Rattle.std.specs.List.{list_all}
use Rattle.std.specs.Fmt.{signed_decimal}
use Rattle.std.specs.Str.{bytes_eq}
use Rattle.toml.specs.Data.{Data, string, integer, float, boolean, datetime, array, table, Items}
use Rattle.scenario_keys.specs.Keys.{list_of}
use Rattle.fault_texts.specs.Characters.{hex_of, quoted}

-- a number, a text or a truth value
abbrev pub is_plain : Data → Bool
is_plain (string text) = true
is_plain (integer number) = true
is_plain (boolean truth) = true
is_plain _ = false

-- a table
abbrev pub is_table : Data → Bool
is_table (table ms) = true
is_table _ = false

-- a truth value
abbrev pub truth_text : Bool → List ℕ
truth_text true = codes "true"
truth_text false = codes "false"

-- a number, a text or a truth value as a scenario writes it
abbrev pub plain_text : Data → List ℕ
plain_text (string text) = quoted text
plain_text (integer number) = signed_decimal number
plain_text (boolean truth) = truth_text truth
plain_text _ = []

-- plain values behind something that stands between them
abbrev pub listed : List ℕ → List Data → List ℕ
listed between [] = []
listed between (d ∷ ds) = between ++ (plain_text d ++ listed (codes ", ") ds)

-- plain values in brackets
unfoldable pub bracketed : List Data → List ℕ
bracketed ds = codes "[" ++ (listed [] ds ++ codes "]")

-- a list: up to 8 plain values in brackets, else how many items it has
unfoldable pub list_text : List Data → List ℕ
list_text ds =
    if nat_le (length ds) 8 && list_all is_plain ds then bracketed ds
    else codes "a list of " ++ (decimal (length ds) ++ (if list_all is_table ds then codes " tables" else codes " items"))

-- what is told of an item of a list
abbrev pub value_text : Data → List ℕ
value_text (array ds) = list_text (list_of ds)
value_text (table ms) = codes "a table"
value_text (float x) = codes "a number with a fraction"
value_text (datetime t) = codes "a date or time"
value_text d = plain_text d

-- a number, in hexadecimal digits too where it is an index or a station
abbrev pub number_text : Bool → ℤ → List ℕ
number_text true (pos n) = decimal n ++ (codes " (0x" ++ (hex_of 4 n ++ codes ")"))
number_text true (negsuc n) = signed_decimal (negsuc n)
number_text false number = signed_decimal number

-- WHAT IS FOUND at a key
abbrev pub found_text : List ℕ → Data → List ℕ
found_text key (integer number) = number_text (bytes_eq key (codes "index") || bytes_eq key (codes "station")) number
found_text key d = value_text d
