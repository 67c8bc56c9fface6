-- How a word that may have been meant is asked for.
use Rattle.std.specs.Prelude.{ℕ, List, [], ◌++◌, codes, Option, Some, None}

-- the question whether a word was meant
unfoldable pub question : List ℕ → List ℕ
question meant = codes "; did you mean `" ++ (meant ++ codes "`?")

-- the question of a word, where there is one
abbrev pub hint : Option (List ℕ) → List ℕ
hint None = []
hint (Some meant) = question meant
