-- Which frames of a ring are lost.
use Rattle.std.specs.Prelude.{ℕ, suc, ◌≤◌, ◌<◌, ◌==◌, if◌then◌else◌, List, [], ◌∷◌, length, take, drop}
use Rattle.segment_ring.specs.declared.wire.Fate.{Fate}
use Rattle.segment_ring.specs.declared.wire.Fate.TheVariants.{Pass, Lost}

-- a frame's fate by a schedule of frame numbers, each with the number of slaves that meet that frame
abbrev pub fate_at : List (ℕ × ℕ) → ℕ → Fate
fate_at [] number = Pass
fate_at (row ∷ rows) number = if row.0 == number then Lost row.1 else fate_at rows number

-- the rows of a schedule are of this frame or later ones
abbrev pub AllFrom : ℕ → List (ℕ × ℕ) → Type 0
AllFrom number [] = Unit {0}
AllFrom number (row ∷ rows) = (number ≤ row.0) × AllFrom number rows

-- they are of frames before this one
abbrev pub AllBefore : ℕ → List (ℕ × ℕ) → Type 0
AllBefore number [] = Unit {0}
AllBefore number (row ∷ rows) = (row.0 < number) × AllBefore number rows

-- the frame numbers of a schedule rise
abbrev pub Rises : List (ℕ × ℕ) → Type 0
Rises [] = Unit {0}
Rises (row ∷ rows) = AllFrom (suc row.0) rows × Rises rows

-- a place in a schedule behind the rows of all frames before this one
pub record StandsAt (lose : List (ℕ × ℕ)) (next number : ℕ) : Type 0 where
  pub inside : next ≤ length lose
  pub before : AllBefore number (take next lose)
  pub from : AllFrom number (drop next lose)
