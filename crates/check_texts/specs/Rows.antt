-- The rows of a diagnosis.
use Rattle.std.specs.Prelude.{ℕ, ◌==◌, List, [], ◌∷◌, ◌++◌, codes, decimal, length, replicate, Option, Some, None, if◌then◌else◌}
use Rattle.check_texts.specs.declared.rows.At.{At}
use Rattle.check_texts.specs.declared.excerpt.Excerpt.{Excerpt}

-- the rule, and what is wrong
unfoldable pub head_row : ℕ → List ℕ → List ℕ
head_row rule head = codes "error[S" ++ (decimal rule ++ (codes "]: " ++ (head ++ codes "\n")))

-- line and column, where there are some
abbrev pub at_text : Option At → List ℕ
at_text None = []
at_text (Some at) = codes ":" ++ (decimal at.line ++ (codes ":" ++ decimal at.column))

-- the title of a table and a key, where there are some
abbrev pub trail_text : List ℕ → List ℕ → List ℕ
trail_text [] [] = []
trail_text [] (c ∷ key) = codes ", " ++ (c ∷ key)
trail_text (c ∷ title) [] = codes ", " ++ (c ∷ title)
trail_text (c ∷ title) (d ∷ key) = codes ", " ++ ((c ∷ title) ++ (codes " > " ++ (d ∷ key)))

-- where it is: the file, the line and column, the title of the table and the key
unfoldable pub arrow_row : List ℕ → Option At → List ℕ → List ℕ → List ℕ
arrow_row name at title key = codes " --> " ++ (name ++ (at_text at ++ (trail_text title key ++ codes "\n")))

-- the digits of a number
abbrev pub margin_of : ℕ → ℕ
margin_of number = length (decimal number)

-- a text with a blank ahead, where it isn't empty
abbrev pub spaced : List ℕ → List ℕ
spaced [] = []
spaced (c ∷ text) = codes " " ++ (c ∷ text)

-- the line, with its number
unfoldable pub line_row : ℕ → List ℕ → List ℕ
line_row number shown = decimal number ++ (codes " |" ++ (spaced shown ++ codes "\n"))

-- marks behind blanks, where there are some
abbrev pub marks_text : ℕ → ℕ → List ℕ
marks_text blanks marks = if marks == 0 then [] else codes " " ++ (replicate blanks 32 ++ replicate marks 94)

-- the row of the marks
unfoldable pub marks_row : ℕ → ℕ → ℕ → List ℕ
marks_row margin blanks marks = replicate margin 32 ++ (codes " |" ++ (marks_text blanks marks ++ codes "\n"))

-- an excerpt of the line of a number: an empty row, the line and the marks
unfoldable pub excerpt_rows : ℕ → Excerpt → List ℕ
excerpt_rows number e = marks_row (margin_of number) 0 0 ++ (line_row number e.shown ++ marks_row (margin_of number) e.blanks e.marks)

-- a note under a word
unfoldable pub note_row : List ℕ → List ℕ → List ℕ
note_row word note = codes "  = " ++ (word ++ (codes ": " ++ (note ++ codes "\n")))
