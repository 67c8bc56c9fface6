-- What the words behind `explain` ask for.
use Rattle.std.specs.Prelude.{ℕ, ◌&&◌, ◌||◌, Bool, true, false, List, [], ◌∷◌, ◌++◌, map, codes, Option, Some, None, if◌then◌else◌}
use Rattle.std.specs.List.{list_any}
use Rattle.code_texts.specs.declared.family.Family.{Family}
use Rattle.code_texts.specs.Fitting.{is_same, is_named}
use Rattle.code_texts.specs.Telling.{told, listed}
use Rattle.form_help.specs.declared.telling.Told.{Told}
use Rattle.near_words.specs.Hint.{hint}
use Rattle.near_words.specs.Near.{near}
use Rattle.code_texts.specs.Family.{word_of}

-- a word that stands in a report's line between the word of its family and the code
unfoldable pub is_filler : List ℕ → List ℕ → Bool
is_filler head word = (is_same head (codes "AL") && is_same word (codes "status")) || (is_same head (codes "audit") && is_same word (codes "no"))

-- the words behind a family's word and its filler
unfoldable pub without_filler : List ℕ → List (List ℕ) → List (List ℕ)
without_filler head [] = []
without_filler head (word ∷ words) = if is_filler head word then words else word ∷ words

-- the line of a word that is no code
unfoldable pub unknown_line : List Family → List ℕ → List ℕ
unknown_line families word = codes "unknown code \"" ++ (word ++ (codes "\": explain alone lists all" ++ (hint (near word (map word_of families)) ++ codes "\n")))

-- the lines found, or where there are none the line of an unknown code
abbrev pub known_or : List ℕ → List ℕ → Told
known_or [] line = record { is_known = false; text = line }
known_or (octet ∷ octets) line = record { is_known = true; text = octet ∷ octets }

-- what a word asks for
unfoldable pub finding : List Family → Option (List ℕ) → List ℕ → Told
finding families head word = known_or (told families head word) (unknown_line families word)

-- the first word is a code; without one all codes are asked for
unfoldable pub coded : List Family → Option (List ℕ) → List (List ℕ) → Told
coded families head [] = record { is_known = true; text = listed families head }
coded families head (code ∷ words) = finding families head code

-- WHAT THE WORDS ASK FOR, of the family that the first one names, or of all
unfoldable pub explained : List Family → List (List ℕ) → Told
explained families [] = coded families None []
explained families (head ∷ words) =
    if list_any (is_named head) families then coded families (Some head) (without_filler head words)
    else coded families None (head ∷ words)
