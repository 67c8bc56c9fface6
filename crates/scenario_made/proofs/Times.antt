-- Steps made so often, as a loop makes them.
use Rattle.std.proofs.Common.{◌≡◌, ℕ, ◌+◌, refl}
use native.Mathlib.Numerals.{unary_clauses}
use Rattle.scenario_made.specs.Made.{Made, times}

-- one step more
pub times_more : (step : ℕ → Made → Made) (n : ℕ) (m : Made) → times step (n + 1) m ≡ step n (times step n m)
times_more step n m = simp unary_clauses refl
