-- What is told of the forms of the program.
use Rattle.std.specs.Prelude.{ℕ, ◌-◌, Bool, true, false, List, [], ◌∷◌, ◌++◌, length, map, take, codes, Option, Some, None}
use Rattle.std.specs.List.{flat_map}
use Rattle.near_words.specs.Hint.{hint}
use Rattle.near_words.specs.Near.{near}
use Rattle.form_help.specs.declared.forms.TheConstants.{HEAD, FOOT, BLANKS}
use Rattle.form_help.specs.declared.telling.Told.{Told}
use Rattle.form_help.specs.Rows.{rows_of, words_of, text_of, name_of, row_named}

-- the line of a form in the list, its text from the forty-first column on
unfoldable pub entry : List ℕ → List ℕ
entry row = codes "  ecmbx " ++ (words_of row ++ (take (32 - length (words_of row)) BLANKS.now ++ (text_of row ++ codes "\n")))

-- the list of all forms
unfoldable pub all_lines : List (List ℕ) → List ℕ
all_lines rows = HEAD.now ++ (flat_map entry rows ++ FOOT.now)

-- the two lines of one form
unfoldable pub form_lines : List ℕ → List ℕ
form_lines row = codes "ecmbx " ++ (words_of row ++ (codes "\n  " ++ (text_of row ++ codes "\n")))

-- the line of a name that no form has
unfoldable pub no_form : List (List ℕ) → List ℕ → List ℕ
no_form rows word = codes "no form is named \"" ++ (word ++ (codes "\": help alone lists all" ++ (hint (near word (map name_of rows)) ++ codes "\n")))

-- the line of a form whose words don't fit
unfoldable pub usage_line : List ℕ → List ℕ
usage_line row = codes "usage: ecmbx " ++ (words_of row ++ codes "\n")

-- what is told of a form by its row, where there is one
abbrev pub of_form : List (List ℕ) → List ℕ → Option (List ℕ) → Told
of_form rows word (Some row) = record { is_known = true; text = form_lines row }
of_form rows word None = record { is_known = false; text = no_form rows word }

-- the line of a form whose words don't fit, by its row
abbrev pub usage_of_row : Option (List ℕ) → List ℕ
usage_of_row (Some row) = usage_line row
usage_of_row None = []

-- THE LINE OF A FORM OF A TABLE WHOSE WORDS DON'T FIT, by its name
unfoldable pub usage_of : List ℕ → List ℕ → List ℕ
usage_of forms word = usage_of_row (row_named word (rows_of forms))

-- WHAT THE WORDS BEHIND `help` ASK FOR, of a table of forms
unfoldable pub help_of : List ℕ → List (List ℕ) → Told
help_of forms [] = record { is_known = true; text = all_lines (rows_of forms) }
help_of forms (word ∷ []) = of_form (rows_of forms) word (row_named word (rows_of forms))
help_of forms (word ∷ others) = record { is_known = false; text = usage_of forms (codes "help") }
