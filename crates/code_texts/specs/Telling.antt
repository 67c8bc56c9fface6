-- What is told of codes.
use Rattle.std.specs.Prelude.{ℕ, ◌-◌, List, ◌++◌, length, take, filter, [], ◌∷◌, codes, Option}
use Rattle.std.specs.List.{flat_map}
use Rattle.code_texts.specs.declared.family.Family.{Family}
use Rattle.code_texts.specs.declared.fitting.Reading.{Reading}
use Rattle.code_texts.specs.declared.fitting.Reading.TheVariants.{AsItStands, BehindZeros}
use Rattle.code_texts.specs.Family.{word_of, title_of}
use Rattle.code_texts.specs.Rows.{rows_of, code_of, text_of}
use Rattle.code_texts.specs.Fitting.{fits, is_asked}

-- the line of a row that was asked for
unfoldable pub row_line : Family → List ℕ → List ℕ
row_line family row = title_of family ++ (codes " " ++ (code_of row ++ (codes ": " ++ (text_of row ++ codes "\n"))))

-- the lines of the rows of a family that fit a word
unfoldable pub found_in : Reading → List ℕ → Family → List ℕ
found_in reading word family = flat_map (row_line family) (filter (fits reading family word) (rows_of family))

-- the lines of all rows that fit it, of the families asked for
unfoldable pub found : Reading → List Family → Option (List ℕ) → List ℕ → List ℕ
found reading families head word = flat_map (found_in reading word) (filter (is_asked head) families)

-- a text, or another where it is empty
abbrev pub or_else : List ℕ → List ℕ → List ℕ
or_else [] other = other
or_else (octet ∷ octets) other = octet ∷ octets

-- WHAT A WORD ASKS FOR: the codes that it is, or where there are none those that it is behind zeros
unfoldable pub told : List Family → Option (List ℕ) → List ℕ → List ℕ
told families head word = or_else (found AsItStands families head word) (found BehindZeros families head word)

-- the line of a row in a list, its text from the thirteenth column on
unfoldable pub row_entry : List ℕ → List ℕ
row_entry row = codes "  " ++ (code_of row ++ (take (10 - length (code_of row)) (codes "          ") ++ (text_of row ++ codes "\n")))

-- the line ahead of a family's rows
unfoldable pub family_head : Family → List ℕ
family_head family = title_of family ++ (codes " (" ++ (word_of family ++ codes ")\n"))

-- a family with its rows
unfoldable pub family_entry : Family → List ℕ
family_entry family = family_head family ++ flat_map row_entry (rows_of family)

-- the families asked for with their rows
unfoldable pub listed : List Family → Option (List ℕ) → List ℕ
listed families head = flat_map family_entry (filter (is_asked head) families)
