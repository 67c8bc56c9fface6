-- Which codes a word asks for.
use Rattle.std.specs.Prelude.{ℕ, ◌-◌, ◌==◌, ◌&&◌, ◌||◌, nat_eq, nat_lt, nat_le, Bool, true, List, length, take, drop, map, codes, Option, Some, None, if◌then◌else◌}
use Rattle.std.specs.List.{list_all, starts_with}
use Rattle.std.specs.Str.{bytes_eq}
use Rattle.std.specs.Char.{to_ascii_lowercase}
use Rattle.code_texts.specs.declared.family.Family.{Family}
use Rattle.code_texts.specs.declared.fitting.Reading.{Reading}
use Rattle.code_texts.specs.Family.{word_of, report_of, is_of_services}
use Rattle.code_texts.specs.Rows.{code_of}
use Rattle.code_texts.specs.declared.fitting.Reading.TheVariants.{AsItStands, BehindZeros}

-- the same word, but for capital and small letters
unfoldable pub is_same : List ℕ → List ℕ → Bool
is_same one other = bytes_eq (map to_ascii_lowercase one) (map to_ascii_lowercase other)

-- a code that is these digits, which are some, behind zeros
unfoldable pub is_padded : List ℕ → List ℕ → Bool
is_padded code digits =
    let zeros = length code - length digits in
    nat_lt 0 (length digits) && nat_le (length digits) (length code) && list_all (λ digit. digit == 48) (take zeros code) && is_same (drop zeros code) digits

-- a word without the `0x` that may stand ahead of a code of services
unfoldable pub digits_in : Family → List ℕ → List ℕ
digits_in family word = if is_of_services family && starts_with nat_eq word (codes "0x") then drop 2 word else word

-- a row whose code is the word, or the word behind zeros
unfoldable pub fits : Reading → Family → List ℕ → List ℕ → Bool
fits AsItStands family word row = is_same (code_of row) (digits_in family word)
fits BehindZeros family word row = is_padded (code_of row) (digits_in family word)

-- a word by which a family is asked for, or with which a report's line begins that tells its codes
unfoldable pub is_named : List ℕ → Family → Bool
is_named head family = is_same head (word_of family) || is_same head (report_of family)

-- a family that is asked for: each, where no word names one
unfoldable pub is_asked : Option (List ℕ) → Family → Bool
is_asked None family = true
is_asked (Some head) family = is_named head family
