-- WHERE FEW FRAMES IN A ROW ARE LOST.
use Rattle.std.specs.Prelude.{◌≡◌, ℕ, ◌+◌, ◌==◌, ◌||◌, ◌≤◌, Bool, true, false, List, [], ◌∷◌}

-- whether a schedule loses the frame of a number
abbrev pub is_lost : List (ℕ × ℕ) → ℕ → Bool
is_lost [] number = false
is_lost (row ∷ rows) number = row.0 == number || is_lost rows number

-- no more frames in a row are lost than a slave outlives: of no `retry + 1` frame numbers in a row all are lost
pub record AreFew (lose : List (ℕ × ℕ)) (retry : ℕ) : Type 0 where
  pub few : (first : ℕ) → ((k : ℕ) → k ≤ retry → is_lost lose (first + k) ≡ true) → ⊥
