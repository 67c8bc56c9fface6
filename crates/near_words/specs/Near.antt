-- Which word may have been meant.
use Rattle.std.specs.Prelude.{ℕ, ◌/◌, nat_eq, nat_lt, nat_le, Bool, List, map, fold, length, chars, Option, Some, None, option_and_then, if◌then◌else◌}
use Rattle.std.specs.Char.{to_ascii_lowercase}
use Rattle.strsim.specs.Edits.{levenshtein_row}

-- a word in small letters
abbrev pub small : List ℕ → List ℕ
small word = map to_ascii_lowercase word

-- the Levenshtein distance of two words, both in small letters
unfoldable pub distance : List ℕ → List ℕ → ℕ
distance word other = levenshtein_row nat_eq (chars (small word)) (chars (small other)) (length (chars (small other)))

-- twice the distance is at most the number of the word's characters
unfoldable pub is_near : List ℕ → List ℕ → Bool
is_near word other = nat_le (distance word other) (length (chars word) / 2)

-- the nearer of two words, the first where both are as near
unfoldable pub nearer : List ℕ → Option (List ℕ) → List ℕ → Option (List ℕ)
nearer word None other = Some other
nearer word (Some best) other = if nat_lt (distance word other) (distance word best) then Some other else Some best

-- the nearest of the words, the first of several
unfoldable pub nearest : List ℕ → List (List ℕ) → Option (List ℕ)
nearest word words = fold (λ best other. nearer word best other) None words

-- and near enough to be meant
unfoldable pub near : List ℕ → List (List ℕ) → Option (List ℕ)
near word words = option_and_then (λ best. if is_near word best then Some best else None) (nearest word words)
