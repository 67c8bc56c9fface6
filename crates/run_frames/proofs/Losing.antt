-- What a lost frame puts off.
use Rattle.std.proofs.Common.{◌≡◌, ◌⊎◌, ℕ, suc, ◌+◌, ◌≤◌, Bool, true, false, Option, Some, None, List, [], ◌∷◌, refl, sym, subst, arith, if◌then◌else◌, inl, inr}
use Rattle.life_runs.specs.of_life_model.Repairs.{Way, whole_way}
use Rattle.life_runs.specs.of_life_model.Tally.{broken}
use Rattle.life_runs.specs.of_life_model.Deadlines.{Standing, deadline, deadline_of, IsTimed}
use Rattle.run_frames.specs.Clocks.{one_by_one}
use Rattle.run_frames.specs.Losses.{Stays, Loses, AllStay, OneLoses}

-- AT MOST its accesses
pub most_of : (slaves pace : ℕ) (s : Standing) (way : Option Way) → IsTimed slaves pace s → deadline_of slaves s way ≤ whole_way slaves pace way
most_of slaves pace s None t = omega arith
most_of slaves pace s (Some w) t = go w.awaits s.stepped
  where
    go : (b c : Bool) → w.rest + (if (if b then (if c then false else true) else false) then s.clock + slaves else suc s.ahead) ≤ w.rest + (slaves + (if b then pace else 0))
    go true true = omega (arith, t.ahead)
    go true false = omega (arith, t.clock)
    go false c = omega (arith, t.ahead)

-- no later than before
later_of : (slaves pace : ℕ) (a b : Standing) (way : Option Way) → IsTimed slaves pace a → IsTimed slaves pace b → Stays a b → deadline_of slaves b way ≤ deadline_of slaves a way
later_of slaves pace a b None s t k = omega arith
later_of slaves pace a b (Some w) s t k = go w.awaits a.stepped b.stepped k.stepped k.ticks
  where
    go : (e c d : Bool) → (c ≡ true → d ≡ true) → (d ≡ true) ⊎ (suc b.clock ≤ a.clock) →
        w.rest + (if (if e then (if d then false else true) else false) then b.clock + slaves else suc b.ahead) ≤ w.rest + (if (if e then (if c then false else true) else false) then a.clock + slaves else suc a.ahead)
    go false c d stays tick = omega (arith, k.ahead)
    go true true true stays tick = omega (arith, k.ahead)
    go true true false stays tick = absurd (let no = stays refl in cc)
    go true false true stays tick = omega (arith, t.ahead)
    go true false false stays (inl tick) = absurd (cc)
    go true false false stays (inr tick) = omega (arith, tick)

pub stays_less : (slaves pace : ℕ) (a b : Standing) → IsTimed slaves pace a → IsTimed slaves pace b → Stays a b → deadline slaves b ≤ deadline slaves a
stays_less slaves pace a b s t k = subst (λ w. deadline_of slaves b w ≤ deadline slaves a) (sym k.way) (later_of slaves pace a b a.way s t k)

pub loses_less : (slaves pace : ℕ) (a b : Standing) → IsTimed slaves pace a → IsTimed slaves pace b → Loses slaves pace a b → (deadline slaves b ≤ deadline slaves a) ⊎ (deadline slaves b ≤ broken slaves pace)
loses_less slaves pace a b s t (Loses.stays k) = inl (stays_less slaves pace a b s t k)
loses_less slaves pace a b s t (Loses.breaks less) = inr (omega (arith, most_of slaves pace b b.way t, less))

-- ONE BY ONE
pub all_stay : (pace : ℕ) (as' bs : List Standing) → AllStay pace as' bs → one_by_one bs ≤ one_by_one as'
all_stay pace [] [] k = omega arith
all_stay pace [] (b ∷ bs) k = absurd k
all_stay pace (a ∷ as') [] k = absurd k
all_stay pace (a ∷ as') (b ∷ bs) k = omega (arith, stays_less 1 pace a b k.0.0 k.0.1 k.0.2, all_stay pace as' bs k.1)

pub one_loses : (pace : ℕ) (as' bs : List Standing) → OneLoses pace as' bs → one_by_one bs ≤ one_by_one as' + broken 1 pace
one_loses pace as' bs (OneLoses.none cs ds k) = omega (arith, all_stay pace as' bs k)
one_loses pace as' bs (OneLoses.here a b cs ds s t k more) = go (loses_less 1 pace a b s t k) (all_stay pace cs ds more)
  where
    go : (deadline 1 b ≤ deadline 1 a) ⊎ (deadline 1 b ≤ broken 1 pace) → one_by_one ds ≤ one_by_one cs → deadline 1 b + one_by_one ds ≤ deadline 1 a + one_by_one cs + broken 1 pace
    go (inl less) r = omega (arith, less, r)
    go (inr less) r = omega (arith, less, r)
one_loses pace as' bs (OneLoses.there a b cs ds s t k more) = omega (arith, stays_less 1 pace a b s t k, one_loses pace cs ds more)
