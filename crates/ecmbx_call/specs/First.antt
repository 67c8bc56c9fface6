-- Which call carries the words of the program out.
use Rattle.std.specs.Prelude.{ℕ, Bool, false, List, [], ◌∷◌, codes}
use Rattle.std.specs.Str.{bytes_eq}

-- the first word is `stream`
abbrev pub is_stream : List (List ℕ) → Bool
is_stream (word ∷ words) = bytes_eq word (codes "stream")
is_stream [] = false
