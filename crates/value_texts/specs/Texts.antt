-- Texts and octets in a line that people read.
use Rattle.std.specs.Prelude.{ℕ, ◌==◌, ◌&&◌, nat_lt, nat_le, Bool, List, [], ◌∷◌, ◌++◌, length, take, codes, if◌then◌else◌}
use Rattle.std.specs.List.{flat_map, list_all}
use Rattle.std.specs.Fmt.{decimal}
use Rattle.hex.specs.Hex.{encode_lower}
use Rattle.reply_text.specs.Reply.{hex_of}

-- a character of a text in quotes, one that can't stand there by its code
unfoldable pub character : ℕ → List ℕ
character octet =
    if octet == 34 then codes "\\\""
    else if octet == 92 then codes "\\\\"
    else if nat_le 32 octet && nat_le octet 126 then octet ∷ []
    else codes "\\x" ++ hex_of 2 octet

-- a text in quotes
unfoldable pub quoted : List ℕ → List ℕ
quoted octets = codes "\"" ++ (flat_map character octets ++ codes "\"")

-- what stands behind the first of so many
unfoldable pub cut : ℕ → List ℕ
cut many = codes ".. (" ++ (decimal many ++ codes ")")

-- a text in quotes: of more than 60 characters the first 60
unfoldable pub text : List ℕ → List ℕ
text octets = if nat_lt 60 (length octets) then quoted (take 60 octets) ++ cut (length octets) else quoted octets

-- octets in hexadecimal digits
abbrev pub digits_text : List ℕ → List ℕ
digits_text octets = codes "octets " ++ encode_lower octets

-- octets: of more than 24 the first 16
unfoldable pub octets_text : List ℕ → List ℕ
octets_text octets =
    if length octets == 0 then codes "no octets"
    else if nat_lt 24 (length octets) then digits_text (take 16 octets) ++ cut (length octets)
    else digits_text octets

-- octets that are some, and each can be printed
unfoldable pub is_printable : List ℕ → Bool
is_printable octets = nat_lt 0 (length octets) && list_all (λ octet. nat_le 32 octet && nat_le octet 126) octets

-- what a file holds: a text where all of it can be printed
unfoldable pub file_text : List ℕ → List ℕ
file_text octets = if is_printable octets then text octets else octets_text octets
