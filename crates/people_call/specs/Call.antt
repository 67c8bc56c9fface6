-- Which words are those of a form for people, and what is told of some.
use Rattle.std.specs.Prelude.{ℕ, ◌||◌, Bool, true, false, List, [], ◌∷◌, codes, if◌then◌else◌}
use Rattle.std.specs.Str.{bytes_eq}
use Rattle.code_texts.specs.declared.family.TheConstants.{FAMILIES}
use Rattle.form_help.specs.declared.forms.TheConstants.{FORMS, VERSION}
use Rattle.form_help.specs.declared.telling.Told.{Told}
use Rattle.form_help.specs.Help.{help_of, usage_of}
use Rattle.people_call.specs.declared.forms.Form.{Form}
use Rattle.people_call.specs.declared.forms.Form.TheVariants as forms
use Rattle.people_call.specs.Explain.{explained}

-- a word that asks for the forms
unfoldable pub is_help : List ℕ → Bool
is_help word = bytes_eq word (codes "help") || (bytes_eq word (codes "--help") || bytes_eq word (codes "-h"))

-- a word that asks for the version
unfoldable pub is_version : List ℕ → Bool
is_version word = bytes_eq word (codes "version") || (bytes_eq word (codes "--version") || bytes_eq word (codes "-V"))

-- a word of which something is told, whatever stands behind it
unfoldable pub is_told : List ℕ → Bool
is_told word = bytes_eq word (codes "explain") || (is_help word || is_version word)

-- the form of a first word
unfoldable pub form_by : List ℕ → Form
form_by word =
    if is_told word then forms.Told
    else if bytes_eq word (codes "get") || bytes_eq word (codes "put") then forms.Entry
    else forms.Other

-- THE FORM OF THE WORDS
unfoldable pub form_in : List (List ℕ) → Form
form_in [] = forms.Other
form_in (word ∷ behind) = form_by word

-- what the words behind `version` ask for
unfoldable pub version_of : List (List ℕ) → Told
version_of [] = record { is_known = true; text = VERSION.now }
version_of (word ∷ words) = record { is_known = false; text = usage_of FORMS.now (codes "version") }

-- what is told of a word and those behind it
unfoldable pub told_of : List ℕ → List (List ℕ) → Told
told_of word behind =
    if bytes_eq word (codes "explain") then explained FAMILIES behind
    else if is_help word then help_of FORMS.now behind
    else version_of behind

-- WHAT IS TOLD OF THE WORDS
unfoldable pub told_in : List (List ℕ) → Told
told_in [] = record { is_known = false; text = [] }
told_in (word ∷ behind) = told_of word behind
