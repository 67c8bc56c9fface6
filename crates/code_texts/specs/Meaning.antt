-- What a code says.
use Rattle.std.specs.Prelude.{ℕ, Bool, List, [], find, Option, Some, None}
use Rattle.std.specs.Str.{bytes_eq}
use Rattle.std.specs.Str.Lines.{lines}
use Rattle.code_texts.specs.declared.services.TheConstants.{CLASSES}
use Rattle.code_texts.specs.declared.family.Family.{Family}
use Rattle.code_texts.specs.Rows.{rows_of, code_of, text_of}

-- a row has a code, as it stands
abbrev pub has_code : List ℕ → List ℕ → Bool
has_code code row = bytes_eq (code_of row) code

-- what a row says that may be there
abbrev pub said : Option (List ℕ) → List ℕ
said (Some row) = text_of row
said None = []

-- what the first of some rows says that has a code
abbrev pub said_in : List ℕ → List (List ℕ) → List ℕ
said_in code rows = said (find (has_code code) rows)

-- WHAT A CODE of a family says, empty where the family doesn't have it
unfoldable pub meaning : Family → List ℕ → List ℕ
meaning family code = said_in code (rows_of family)

-- THE CLASS of emergencies whose codes have a high octet, by its two digits, empty where it has none
unfoldable pub class : List ℕ → List ℕ
class digits = said_in digits (lines CLASSES.now)
