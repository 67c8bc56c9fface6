-- SLAVES THAT WAIT while frames come back with nothing gained.
use Rattle.std.specs.Prelude.{◌≡◌, ◌⊎◌, ◌≤◌, ℕ, zero, suc, ◌%◌, ◌==◌, ◌&&◌, Bool, true, false, if◌then◌else◌, List, [], ◌∷◌, map}
use Rattle.run_frames.specs.Clocks.{Clocked}
use Rattle.run_frames.specs.Goes.{Under}
use Rattle.run_frames.specs.Orders.{is_live}

-- since something was gained last: whether the slave made a step, and how often it was visited behind that
pub record Waits : Type 0 where
  pub stepped : Bool
  pub tries : ℕ

-- something was gained just now
abbrev pub new_waits : Waits
new_waits = record { stepped = false; tries = 0 }

-- of each slave, where something was gained
abbrev pub all_anew : {M Q R : Type 0} → List (Clocked M Q R) → List Waits
all_anew cs = map (λ c. new_waits) cs

-- behind a frame with this number by which nothing was gained
abbrev pub waits_on : {M Q R : Type 0} → ℕ → Clocked M Q R → Under M Q R → Waits → Waits
waits_on number a u w = record { stepped = if suc number % a.pace == 0 then true else w.stepped; tries = if u.under && w.stepped then suc w.tries else w.tries }

-- of each slave
abbrev pub all_on : {M Q R : Type 0} → ℕ → List (Clocked M Q R) → List (Under M Q R) → List Waits → List Waits
all_on number (a ∷ as') (u ∷ us) (w ∷ ws) = waits_on number a u w ∷ all_on number as' us ws
all_on number _ _ _ = []

-- behind a frame behind which so many came back with nothing gained
abbrev pub waits_behind : {M Q R : Type 0} → ℕ → ℕ → List (Clocked M Q R) → List (Under M Q R) → List Waits → List Waits
waits_behind zero number as' us ws = all_anew as'
waits_behind (suc still) number as' us ws = all_on number as' us ws

-- SOME SLAVE WAITS YET: a live one, and it was visited once at most behind a step
abbrev pub SomeWaits : {M Q R : Type 0} → List (Clocked M Q R) → List Waits → Type 0
SomeWaits (c ∷ cs) (w ∷ ws) = ((is_live c.life.stand ≡ true) × (w.tries ≤ 1)) ⊎ SomeWaits cs ws
SomeWaits _ _ = ⊥
