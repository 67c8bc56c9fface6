-- Lists of objects (ETG.1000.6, section 5.6.3).
use Rattle.std.specs.Prelude.{ℕ, ◌+◌, ◌*◌, ◌/◌, ◌%◌, ◌==◌, ◌||◌, nat_lt, List, [], ◌∷◌, ◌++◌, length, take, drop, codes, if◌then◌else◌}
use Rattle.std.specs.Fmt.{decimal}
use Rattle.reply_text.specs.Reply.{hex_of}
use Rattle.value_texts.specs.Texts.{octets_text}

-- an index, or a count of list 0, with a comma ahead
unfoldable pub word_text : ℕ → ℕ → List ℕ
word_text kind word = if kind == 0 then codes ", " ++ decimal word else codes ", " ++ hex_of 4 word

-- the numbers in octets, two each, the lower octet first
abbrev pub words_text : ℕ → List ℕ → List ℕ
words_text kind (low ∷ high ∷ octets) = word_text kind (low + 256 * high) ++ words_text kind octets
words_text kind _ = []

-- the same without the comma ahead
unfoldable pub first_text : ℕ → List ℕ → List ℕ
first_text kind octets = drop 2 (words_text kind octets)

-- how many indexes there are
unfoldable pub more : ℕ → List ℕ
more many = codes ", .. (" ++ (decimal many ++ codes ")")

-- the indexes: of more than 16 the first 16
unfoldable pub indexes_text : ℕ → List ℕ → List ℕ
indexes_text kind octets =
    if nat_lt 32 (length octets) then first_text kind (take 32 octets) ++ more (length octets / 2)
    else first_text kind octets

-- the lengths of the lists
unfoldable pub counts_text : List ℕ → List ℕ
counts_text octets = codes "counts " ++ first_text 0 octets

-- what stands behind the kind of a list
unfoldable pub list_in : ℕ → List ℕ → List ℕ
list_in kind octets =
    if length octets == 0 then codes "no objects"
    else if kind == 0 then counts_text octets
    else indexes_text kind octets

-- A LIST OF OBJECTS, or else the octets
unfoldable pub list_text : ℕ → List ℕ → List ℕ
list_text kind octets =
    if nat_lt (length octets) 2 || length octets % 2 == 1 then octets_text octets
    else list_in kind (drop 2 octets)
