-- What is told of an object and of an entry (ETG.1000.6, section 5.6.3).
use Rattle.std.specs.Prelude.{ℕ, ◌==◌, nat_lt, List, [], ◌++◌, length, drop, slice_index, codes, if◌then◌else◌}
use Rattle.std.specs.Fmt.{decimal}
use Rattle.ec_fields.specs.Fields.{number_at}
use Rattle.value_texts.specs.Texts.{text, octets_text}
use Rattle.value_texts.specs.Types.{type_text}

-- an object code in words, empty where it has none
abbrev pub code_word : ℕ → List ℕ
code_word code = if code == 7 then codes "variable" else if code == 8 then codes "array" else if code == 9 then codes "record" else []

-- an object code in words, or as a number
unfoldable pub code_text : ℕ → List ℕ
code_text code = if length (code_word code) == 0 then codes "object code " ++ decimal code else code_word code

-- how far the subindexes go
unfoldable pub greatest : ℕ → List ℕ
greatest sub = codes ", greatest subindex " ++ (decimal sub ++ codes ", first type ")

-- an object: index, first data type, greatest subindex, object code, name
unfoldable pub object_in_words : List ℕ → List ℕ
object_in_words octets =
    code_text (slice_index octets 5) ++ (codes " " ++ (text (drop 6 octets) ++ (greatest (slice_index octets 4) ++ type_text (number_at 2 octets 2))))

-- WHAT IS TOLD OF AN OBJECT, or else the octets
unfoldable pub object_info_text : List ℕ → List ℕ
object_info_text octets = if nat_lt (length octets) 6 then octets_text octets else object_in_words octets

-- the bits of an entry, and its access rights
unfoldable pub rights : ℕ → ℕ → List ℕ
rights bits access = codes ", " ++ (decimal bits ++ (codes " bits, access " ++ decimal access))

-- an entry: index, subindex, value info, data type, bit length, access, name
unfoldable pub entry_in_words : List ℕ → List ℕ
entry_in_words octets =
    type_text (number_at 2 octets 4) ++ (codes " " ++ (text (drop 10 octets) ++ rights (number_at 2 octets 6) (number_at 2 octets 8)))

-- WHAT IS TOLD OF AN ENTRY, or else the octets
unfoldable pub entry_info_text : List ℕ → List ℕ
entry_info_text octets = if nat_lt (length octets) 10 then octets_text octets else entry_in_words octets
