-- The counter of a mail: 1 to 7 and then 1 again; 0 means none.
use Rattle.std.specs.Prelude.{ℕ, zero, suc, ◌+◌, ◌%◌, ◌==◌, ◌&&◌, Bool, not}

-- the counter behind a counter: 0 and 7 give 1
abbrev pub next_counter : ℕ → ℕ
next_counter c = c % 7 + 1

-- a mail with this counter is the last one once more: the counter is not 0 and equals the last one
abbrev pub repeats : ℕ → ℕ → Bool
repeats last counter = not (counter == 0) && (counter == last)

-- the counter of a side's i-th new mail, i from 1; 0 while there is none
abbrev pub counter_of : ℕ → ℕ
counter_of zero = 0
counter_of (suc i) = i % 7 + 1
