-- Values by their data types (CiA 301).
use Rattle.std.specs.Prelude.{ℕ, ◌==◌, ◌||◌, nat_le, Bool, true, false, List, [], ◌∷◌, ◌++◌, length, codes, if◌then◌else◌}
use Rattle.std.specs.Fmt.{decimal, signed_decimal}
use Rattle.byteorder.specs.Endian.{little_number, twos_complement}
use Rattle.object_dictionary.specs.Entries.{size_of_kind, is_signed}
use Rattle.value_texts.specs.declared.types.Reading.{Reading}
use Rattle.value_texts.specs.declared.types.Reading.TheVariants.{Truth, Signed, Unsigned, Text, Plain}
use Rattle.value_texts.specs.Texts.{text, octets_text}

-- the name of a data type by its number, empty where it has none here
abbrev pub type_word : ℕ → List ℕ
type_word kind =
    if kind == 1 then codes "BOOLEAN"
    else if kind == 2 then codes "INTEGER8"
    else if kind == 3 then codes "INTEGER16"
    else if kind == 4 then codes "INTEGER32"
    else if kind == 5 then codes "UNSIGNED8"
    else if kind == 6 then codes "UNSIGNED16"
    else if kind == 7 then codes "UNSIGNED32"
    else if kind == 9 then codes "VISIBLE_STRING"
    else if kind == 10 then codes "OCTET_STRING"
    else if kind == 21 then codes "INTEGER64"
    else if kind == 27 then codes "UNSIGNED64"
    else []

-- a data type by its name, or by its number where it has none here
unfoldable pub type_text : ℕ → List ℕ
type_text kind = if length (type_word kind) == 0 then codes "type " ++ decimal kind else type_word kind

-- a BOOLEAN is 00 or 01
unfoldable pub truth : List ℕ → Reading
truth (octet ∷ []) = if nat_le octet 1 then Truth (octet == 1) else Plain
truth _ = Plain

-- the number of octets in two's complement, the lowest one first
unfoldable pub signed : List ℕ → Reading
signed octets = Signed (twos_complement (length octets) (little_number (length octets) octets))

-- the number of octets, the lowest one first
unfoldable pub unsigned : List ℕ → Reading
unsigned octets = Unsigned (little_number (length octets) octets)

-- the number of a numeric type, where the octets are as many as it has
unfoldable pub number : ℕ → List ℕ → Reading
number kind octets =
    if length octets == size_of_kind kind then (if is_signed kind then signed octets else unsigned octets)
    else Plain

-- the numeric types but for BOOLEAN
abbrev pub is_numeric : ℕ → Bool
is_numeric kind = kind == 2 || kind == 3 || kind == 4 || kind == 5 || kind == 6 || kind == 7 || kind == 21 || kind == 27

-- what the octets of a value of a data type are told as
unfoldable pub read_as : ℕ → List ℕ → Reading
read_as kind octets =
    if kind == 1 then truth octets
    else if kind == 9 then Text
    else if is_numeric kind then number kind octets
    else Plain

-- a value without its type
unfoldable pub plain : Reading → List ℕ → List ℕ
plain (Truth true) octets = codes "true"
plain (Truth false) octets = codes "false"
plain (Signed n) octets = signed_decimal n
plain (Unsigned n) octets = decimal n
plain Text octets = text octets
plain Plain octets = octets_text octets

-- a type in brackets
unfoldable pub bracketed : ℕ → List ℕ
bracketed kind = codes " (" ++ (type_text kind ++ codes ")")

-- the type behind a value that doesn't show it
unfoldable pub note : Reading → ℕ → List ℕ
note (Truth b) kind = bracketed kind
note (Signed n) kind = bracketed kind
note (Unsigned n) kind = bracketed kind
note Text kind = []
note Plain kind = []
