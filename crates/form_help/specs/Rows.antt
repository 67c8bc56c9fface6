-- The rows of a table of forms: a line each, with the words behind the program's name, a bar and what the form does.
use Rattle.std.specs.Prelude.{ℕ, ◌==◌, Bool, List, Option, find}
use Rattle.std.specs.List.{before_first, after_first}
use Rattle.std.specs.Str.{bytes_eq}
use Rattle.std.specs.Str.Lines.{lines}

-- the rows
unfoldable pub rows_of : List ℕ → List (List ℕ)
rows_of forms = lines forms

-- the words of a row, which stand before its first bar
unfoldable pub words_of : List ℕ → List ℕ
words_of row = before_first (λ octet. octet == 124) row

-- what the form does, which stands behind it
unfoldable pub text_of : List ℕ → List ℕ
text_of row = after_first (λ octet. octet == 124) row

-- the form's name: the first of the words
unfoldable pub name_of : List ℕ → List ℕ
name_of row = before_first (λ octet. octet == 32) (words_of row)

-- a row of the form of that name
unfoldable pub is_named : List ℕ → List ℕ → Bool
is_named word row = bytes_eq (name_of row) word

-- the first such row
unfoldable pub row_named : List ℕ → List (List ℕ) → Option (List ℕ)
row_named word rows = find (is_named word) rows
