-- What the words of the command line ask for.
use Rattle.std.specs.Prelude.{ℕ, ◌^◌, ◌&&◌, nat_le, nat_lt, List, [], ◌∷◌, codes, Option, Some, None, if◌then◌else◌}
use Rattle.std.specs.Fmt.{decimal}
use Rattle.std.specs.Str.{bytes_eq}
use Rattle.std.specs.Str.Parse.{digits_value}
use Rattle.ecmbx_words.specs.declared.form.Form.{Form}
use Rattle.ecmbx_words.specs.declared.form.Form.TheVariants as forms

-- the number that a word is the decimal spelling of, below 2 to the power 32
abbrev pub number_in : List ℕ → Option ℕ
number_in word =
    if bytes_eq word (decimal (digits_value 10 word)) && nat_lt (digits_value 10 word) (2 ^ 32) then Some (digits_value 10 word) else None

-- `make`, with a size of 1 to 4,096
abbrev pub made_in : Option ℕ → Option ℕ → Form
made_in (Some seed) (Some size) = if nat_le 1 size && nat_le size 4096 then forms.Make seed size else forms.Other
made_in _ _ = forms.Other

-- `serve`, with a count of 1 to 1,000,000
abbrev pub served_in : Option ℕ → Form
served_in (Some count) = if nat_le 1 count && nat_le count 1000000 then forms.Serve count else forms.Other
served_in None = forms.Other

-- two words: `run SCENARIO`, `decode CAPTURE` or `audit CAPTURE`
abbrev pub pair_in : List ℕ → Form
pair_in word =
    if bytes_eq word (codes "run") then forms.Run
    else (if bytes_eq word (codes "decode") then forms.Decode
    else (if bytes_eq word (codes "audit") then forms.Audit else forms.Other))

-- three words: `run SCENARIO CAPTURE`, `make SEED SIZE` or `serve SCENARIO COUNT`
abbrev pub triple_in : List ℕ → List ℕ → List ℕ → Form
triple_in word second third =
    if bytes_eq word (codes "run") then forms.RunSaved
    else (if bytes_eq word (codes "make") then made_in (number_in second) (number_in third)
    else (if bytes_eq word (codes "serve") then served_in (number_in third) else forms.Other))

-- THE FORM of the words
abbrev pub form_in : List (List ℕ) → Form
form_in (word ∷ _ ∷ []) = pair_in word
form_in (word ∷ second ∷ third ∷ []) = triple_in word second third
form_in _ = forms.Other

-- the form of words that ask for a serving with a count, or for none
abbrev pub serving : Option ℕ → Form
serving (Some count) = forms.Serve count
serving None = forms.Other

-- `stream SCENARIO COUNT` as `serve SCENARIO COUNT`; no word for other words
abbrev pub as_serve : List (List ℕ) → List (List ℕ)
as_serve (word ∷ words) = if bytes_eq word (codes "stream") then codes "serve" ∷ words else []
as_serve [] = []

-- the file that a form of the words loads
abbrev pub name_in : List (List ℕ) → List ℕ
name_in (_ ∷ name ∷ _) = name
name_in _ = []

-- the file that a capture is saved in
abbrev pub saved_in : List (List ℕ) → List ℕ
saved_in (_ ∷ _ ∷ name ∷ _) = name
saved_in _ = []
