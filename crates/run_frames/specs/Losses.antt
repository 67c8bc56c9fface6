-- A LOST FRAME OF THE FIRST BRING-UP, for the repair of each slave.
use Rattle.std.specs.Prelude.{◌≡◌, ◌≤◌, ℕ, true, List, [], ◌∷◌, ⊤}
use Rattle.life_runs.specs.of_life_model.Deadlines.{Standing, IsTimed, Ticks}
use Rattle.life_runs.specs.of_life_model.Repairs.{whole_way}
use Rattle.life_runs.specs.of_life_model.Tally.{broken}

-- the repair stays at its access, and the slave is no further away than it was
pub record Stays (a b : Standing) : Type 0 where
  pub way : b.way ≡ a.way
  pub stepped : a.stepped ≡ true → b.stepped ≡ true
  pub ahead : b.ahead ≤ a.ahead
  pub ticks : Ticks a b

-- it does, or it begins anew, and takes no longer than a reopening
pub data Loses (slaves pace : ℕ) (a b : Standing) : Type 0 where
  stays : Stays a b → Loses slaves pace a b
  breaks : whole_way slaves pace b.way ≤ broken slaves pace → Loses slaves pace a b

-- each stays
abbrev pub AllStay : ℕ → List Standing → List Standing → Type 0
AllStay pace [] [] = ⊤
AllStay pace (a ∷ as') (b ∷ bs) = (IsTimed 1 pace a × IsTimed 1 pace b × Stays a b) × AllStay pace as' bs
AllStay pace _ _ = ⊥

-- in the first bring-up a frame carries one slave: no other loses anything
pub data OneLoses (pace : ℕ) : List Standing → List Standing → Type 0 where
  none : (as' bs : List Standing) → AllStay pace as' bs → OneLoses pace as' bs
  here : (a b : Standing) (as' bs : List Standing) → IsTimed 1 pace a → IsTimed 1 pace b → Loses 1 pace a b → AllStay pace as' bs → OneLoses pace (a ∷ as') (b ∷ bs)
  there : (a b : Standing) (as' bs : List Standing) → IsTimed 1 pace a → IsTimed 1 pace b → Stays a b → OneLoses pace as' bs → OneLoses pace (a ∷ as') (b ∷ bs)
