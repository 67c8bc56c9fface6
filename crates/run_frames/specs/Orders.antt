-- THE ORDER IN WHICH A MASTER VISITS THE SLAVES OF ITS RING, by places.
use Rattle.std.specs.Prelude.{◌≡◌, ◌≤◌, ℕ, zero, suc, ◌+◌, ◌-◌, ◌==◌, nat_lt, Bool, true, false, if◌then◌else◌, Option, Some, None, List, [], ◌∷◌, ◌++◌, filter, length, ◌<◌, ⊤}
use Rattle.life_runs.specs.of_life_model.Lives.{Stand, Opening}
use Rattle.life_runs.specs.of_life_model.Repairs.{way_of}
use Rattle.run_frames.specs.Clocks.{Clocked, start_of}
use Rattle.run_frames.specs.Goes.{Under, NoneUnder}

-- a slave that wasn't given up for good
abbrev pub is_live : Stand → Bool
is_live (Stand.Opens o) = true
is_live Stand.Open = true
is_live Stand.Gone = false

-- the slave at this place is one
abbrev pub live_at : {M Q R : Type 0} → List (Clocked M Q R) → ℕ → Bool
live_at [] k = false
live_at (c ∷ cs) zero = is_live c.life.stand
live_at (c ∷ cs) (suc k) = live_at cs k

-- the frame has a datagram for the slave at this place
abbrev pub under_at : {M Q R : Type 0} → List (Under M Q R) → ℕ → Bool
under_at [] k = false
under_at (u ∷ us) zero = u.under
under_at (u ∷ us) (suc k) = under_at us k

-- a place is among these
abbrev pub is_in : ℕ → List ℕ → Bool
is_in k [] = false
is_in k (p ∷ ps) = if k == p then true else is_in k ps

-- the place of the slave number k of a round
abbrev pub place_in : ℕ → ℕ → ℕ → ℕ
place_in start count k = if nat_lt k (count - start) then start + k else k - (count - start)

-- so many of it, from number k on
abbrev pub places_from : ℕ → ℕ → ℕ → ℕ → List ℕ
places_from start count k zero = []
places_from start count k (suc n) = place_in start count k ∷ places_from start count (suc k) n

-- THE LIVE SLAVES OF A ROUND, in order
abbrev pub live_round : {M Q R : Type 0} → ℕ → Option ℕ → List (Clocked M Q R) → List ℕ
live_round count last cs = filter (live_at cs) (places_from (start_of count last) count 0 count)

-- at least one of these, from the first on
pub record AreFirst (ps qs : List ℕ) : Type 0 where
  pub rest : List ℕ
  pub whole : qs ≡ ps ++ rest
  pub some : 1 ≤ length ps

-- the last of these
abbrev pub last_of : Option ℕ → List ℕ → Option ℕ
last_of last [] = last
last_of last (p ∷ ps) = last_of (Some p) ps

-- A FRAME BEHIND THE FIRST BRING-UP carries the live slaves of a round from the first on, at least one, and no other
pub record IsRound {M Q R : Type 0} (count : ℕ) (last : Option ℕ) (as' : List (Clocked M Q R)) (us : List (Under M Q R)) (ps : List ℕ) : Type 0 where
  pub first : AreFirst ps (live_round count last as')
  pub under : (k : ℕ) → k < count → under_at us k ≡ is_in k ps

-- IN THE FIRST BRING-UP it carries the slave that is brought up, and no other
pub data IsOpening {M Q R : Type 0} : List (Under M Q R) → Type 0 where
  here : (u : Under M Q R) (us : List (Under M Q R)) (o : Opening) → u.under ≡ true → u.life.stand ≡ Stand.Opens o → NoneUnder us → IsOpening (u ∷ us)
  there : (u : Under M Q R) (us : List (Under M Q R)) → u.under ≡ false → IsOpening us → IsOpening (u ∷ us)

-- nothing is to be repaired of any slave
abbrev pub AllRepaired : {M Q R : Type 0} → List (Clocked M Q R) → Type 0
AllRepaired [] = ⊤
AllRepaired (c ∷ cs) = (way_of 1 1 c.life ≡ None) × AllRepaired cs

-- a slave that is brought up, or opened anew
abbrev pub is_opening : Stand → Bool
is_opening (Stand.Opens o) = true
is_opening Stand.Open = false
is_opening Stand.Gone = false

-- the frame carries the slave at this place, and no other
abbrev pub CarriesOne : {M Q R : Type 0} → ℕ → List (Under M Q R) → Type 0
CarriesOne n [] = ⊤
CarriesOne zero (u ∷ us) = (u.under ≡ true) × NoneUnder us
CarriesOne (suc n) (u ∷ us) = (u.under ≡ false) × CarriesOne n us

-- HOW MANY SLAVES HAVE ENDED THEIR FIRST BRING-UP, behind a frame: one more where the one that was brought up isn't any more
abbrev pub opened_on : {M Q R : Type 0} → ℕ → List (Clocked M Q R) → ℕ
opened_on n [] = n
opened_on zero (c ∷ cs) = if is_opening c.life.stand then 0 else 1
opened_on (suc n) (c ∷ cs) = suc (opened_on n cs)
