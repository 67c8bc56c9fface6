-- What of a slave a word asks for.
use Rattle.std.specs.Prelude.{◌≤◌, ℕ, ◌&&◌, ◌==◌, nat_eq, nat_le, nat_lt, Bool, List, codes, drop, length, Option, Some, None, if◌then◌else◌}
use Rattle.std.specs.List.{starts_with, position_or_len, before_first, after_first}
use Rattle.scenario_keys.specs.Keys.{is_name}
use Rattle.segment_plan.specs.Sound.{IsName}
use Rattle.entry_words.specs.Numbers.{is_hexadecimal, number_in}
use Rattle.entry_words.specs.declared.what.What.{What}

-- digits without 0x ahead
abbrev pub without_prefix : List ℕ → List ℕ
without_prefix digits = if is_hexadecimal digits then drop 2 digits else digits

-- an entry, where both numbers are within their fields
abbrev pub entry_of : Option ℕ → Option ℕ → Option What
entry_of (Some index) (Some sub) = if nat_le index 0xFFFF && nat_le sub 0xFF then Some (What.Entry index sub) else None
entry_of _ _ = None

-- the entry of these hexadecimal digits
abbrev pub entry_in : List ℕ → List ℕ → Option What
entry_in index sub = entry_of (number_in 16 (without_prefix index)) (number_in 16 sub)

-- an octet is a colon
abbrev pub is_colon : ℕ → Bool
is_colon octet = octet == 58

-- INDEX:SUB, or INDEX for subindex 0, where no colon stands in it
unfoldable pub parted_in : List ℕ → Option What
parted_in word = if nat_lt (position_or_len is_colon word) (length word) then entry_in (before_first is_colon word) (after_first is_colon word) else entry_in word (codes "0")

-- the file of a name
abbrev pub named_in : List ℕ → Option What
named_in name = if is_name name then Some (What.File (record { items = name })) else None

-- WHAT A WORD ASKS FOR: INDEX:SUB or INDEX, in hexadecimal digits, or file:NAME
unfoldable pub what_in : List ℕ → Option What
what_in word = if starts_with nat_eq word (codes "file:") then named_in (drop 5 word) else parted_in word

-- numbers within their fields, or a name that a file may have
abbrev pub IsWhat : What → Type 0
IsWhat (What.Entry index sub) = (index ≤ 0xFFFF) × (sub ≤ 0xFF)
IsWhat (What.File name) = IsName name
