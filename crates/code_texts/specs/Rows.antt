-- The rows of a family of codes.
use Rattle.std.specs.Prelude.{ℕ, ◌==◌, List}
use Rattle.std.specs.List.{before_first, after_first}
use Rattle.std.specs.Str.Lines.{lines}
use Rattle.code_texts.specs.declared.family.Family.{Family}
use Rattle.code_texts.specs.Family.{codes_of}

-- its lines
unfoldable pub rows_of : Family → List (List ℕ)
rows_of family = lines (codes_of family)

-- the code of a row, which stands before its first blank
unfoldable pub code_of : List ℕ → List ℕ
code_of row = before_first (λ octet. octet == 32) row

-- and what it says, which stands behind it
unfoldable pub text_of : List ℕ → List ℕ
text_of row = after_first (λ octet. octet == 32) row
