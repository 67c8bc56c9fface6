-- Words in two parts.
use Rattle.std.proofs.Common.{◌≡◌, ℕ, ◌<◌, List, Option, length, nat_lt, true, false, ap, ◌∙◌, arith, codes}
use Rattle.std.proofs.lemmas.Bool.{lt-ltb}
use Rattle.std.proofs.lemmas.Bool.Decides.{nat_tests}
use Rattle.std.specs.List.{position_or_len, before_first, after_first}
use Rattle.entry_words.specs.declared.what.What.{What}
use Rattle.entry_words.specs.What.{is_colon, entry_in, parted_in}

-- a colon stands in a word
pub with_colon : (word first second : List ℕ) (what : Option What) → (position_or_len is_colon word < length word) × (first ≡ before_first is_colon word) × (second ≡ after_first is_colon word) → what ≡ entry_in first second → what ≡ parted_in word
unfolding parted_in
with_colon word first second what parts is =
    let some : nat_lt (position_or_len is_colon word) (length word) ≡ true = lt-ltb (position_or_len is_colon word) (length word) parts.0 in
    rw some (is ∙ ap (λ one. entry_in one second) parts.1 ∙ ap (λ other. entry_in (before_first is_colon word) other) parts.2)

-- and none
pub without_colon : (word first : List ℕ) (what : Option What) → position_or_len is_colon word ≡ length word → first ≡ word → what ≡ entry_in first (codes "0") → what ≡ parted_in word
unfolding parted_in
without_colon word first what none same is =
    let none : nat_lt (position_or_len is_colon word) (length word) ≡ false = grind (arith, nat_tests) in
    rw none (is ∙ ap (λ one. entry_in one (codes "0")) same)
