-- Of a ring some slave waits yet, or each was spent before the frame.
use Rattle.std.proofs.Common.{◌≡◌, ◌⊎◌, ◌≤◌, ℕ, zero, suc, Bool, true, None, List, [], ◌∷◌, refl, sym, ap, ◌∙◌, arith, inl, inr}
use Rattle.plan_ring.specs.of_exchange_model.Exchange.{Speech}
use Rattle.plan_ring.specs.of_life_model.Repairs.{way_of, stand_way, half_way}
use Rattle.plan_ring.specs.of_life_model.Lives.{Life, Spot, Stand, life_next, life_back}
use Rattle.plan_ring.specs.of_link_model.Agree.{Agrees}
use Rattle.plan_ring.specs.of_link_model.Link.{Link, Halves}
use Rattle.plan_ring.specs.of_link_model.Master.{InState}
use Rattle.plan_ring.specs.of_link_model.Slave.{Node, Server}
use Rattle.plan_ring.specs.of_run_frames.Clocks.{Clocked}
use Rattle.plan_ring.specs.of_run_frames.Goes.{Under, back_life, all_back}
use Rattle.plan_ring.specs.of_run_frames.Orders.{is_live}
use Rattle.plan_ring.specs.of_run_frames.Waits.{Waits, new_waits, waits_on, all_on, SomeWaits}
use Rattle.plan_ring.specs.of_segment_model.Slaves.{Datagram}
use Rattle.idle_slaves.specs.Rings.{Kept, Stays, IsVainFor, AllVain, AllStay, AllSpent, kept_on}
use Rattle.idle_slaves.specs.Visited.{Shows, Waiting, LifeSpent}
use Rattle.idle_slaves.specs.Waiting.{Wanted, Memory, IsWaiting}
use Rattle.idle_slaves.proofs.Frames.{waits_so, was_spent}
use Rattle.idle_slaves.proofs.Going.{goes_so}

one_or_two : (n : ℕ) → (n ≤ 1) ⊎ (2 ≤ n)
one_or_two zero = inl (omega arith)
one_or_two (suc zero) = inl (omega arith)
one_or_two (suc (suc n)) = inr (omega arith)

module _ {M Q R : Type 0} (x : Spot → Speech M Q R) (acknowledged : Q → Bool) (more : M → Bool) (passed : Q → Bool) (number : ℕ) (back : List (Datagram M)) where
  abbrev behind : Clocked M Q R → Under M Q R → Life M Q R
  behind a u = back_life x acknowledged more passed number back a u

  -- ONE SLAVE: it waits yet, or was given up or spent
  abbrev Waits1 : Clocked M Q R → Under M Q R → Waits → Type 0
  Waits1 a u t = (is_live (behind a u).stand ≡ true) × ((waits_on number a u t).tries ≤ 1)

  live_open : (l : Life M Q R) → l.stand ≡ Stand.Open → is_live l.stand ≡ true
  live_open l e = ap is_live e

  one : {S : Type 0} (s : Kept M S) (a : Clocked M Q R) (u : Under M Q R) (t : Waits) → IsVainFor x acknowledged more passed number back s a u t → Waits1 a u t ⊎ ((a.life.stand ≡ Stand.Gone) ⊎ LifeSpent s.server a.life s.node)
  one s a u t (IsVainFor.gone pick stands life) = inr (inl stands)
  one s a u t (IsVainFor.goes g i) =
      let k = goes_so s.table x acknowledged more passed number back a u s.registers t g i in
      inl (live_open (behind a u) k.stands, omega (arith, k.tries))
  one s a u t (IsVainFor.waits k i) =
      let on = waits_so s.server x acknowledged more passed number back a u s.node s.memory t k i in
      elim (one_or_two (waits_on number a u t).tries) [
        | inl few ↦ inl (live_open (behind a u) on.shows.stands, few)
        | inr two ↦ inr (inr (was_spent s.server x acknowledged more passed number back a u s.node s.memory t k i two))
      ]

  pub some_or_spent : {S : Type 0} (ss : List (Kept M S)) (as' : List (Clocked M Q R)) (us : List (Under M Q R)) (ts : List Waits) → AllVain x acknowledged more passed number back ss as' us ts →
      SomeWaits (all_back x acknowledged more passed number back as' us) (all_on number as' us ts) ⊎ AllSpent ss as'
  some_or_spent [] [] [] [] all = inr tt
  some_or_spent [] [] [] (t ∷ ts) all = elim all [ ]
  some_or_spent [] [] (u ∷ us) ts all = elim all [ ]
  some_or_spent [] (a ∷ as') us ts all = elim all [ ]
  some_or_spent (s ∷ ss) [] us ts all = elim all [ ]
  some_or_spent (s ∷ ss) (a ∷ as') [] ts all = elim all [ ]
  some_or_spent (s ∷ ss) (a ∷ as') (u ∷ us) [] all = elim all [ ]
  some_or_spent (s ∷ ss) (a ∷ as') (u ∷ us) (t ∷ ts) all = elim (one s a u t all.0) [
    | inl waits ↦ inl (inl waits)
    | inr spent ↦ elim (some_or_spent ss as' us ts all.1) [ inl later ↦ inl (inr later) | inr rest ↦ inr (spent, rest) ]
  ]

  -- AND EACH STANDS SO behind the frame
  stays : {S : Type 0} (s : Kept M S) (a : Clocked M Q R) (u : Under M Q R) (t : Waits) → IsVainFor x acknowledged more passed number back s a u t → Stays (kept_on x acknowledged more passed number back s a u) (behind a u) (waits_on number a u t)
  stays s a u t (IsVainFor.waits k i) = Stays.waits (waits_so s.server x acknowledged more passed number back a u s.node s.memory t k i)
  stays s a u t (IsVainFor.goes g i) = Stays.goes (goes_so s.table x acknowledged more passed number back a u s.registers t g i)
  stays s a u t (IsVainFor.gone pick stands life) =
      let same : u.life ≡ a.life = life ∙ ap (λ z. life_next (x a.spot) acknowledged more passed number a.life z pick) stands in
      let gone : u.life.stand ≡ Stand.Gone = ap (λ z. z.stand) same ∙ stands in
      Stays.gone (ap (λ z. (life_back (x a.spot) acknowledged more passed number a.spot u.news back u.came u.life z).stand) gone ∙ gone)

  pub all_stay : {S : Type 0} (ss : List (Kept M S)) (as' : List (Clocked M Q R)) (us : List (Under M Q R)) (ts : List Waits) → AllVain x acknowledged more passed number back ss as' us ts → AllStay x acknowledged more passed number back ss as' us ts
  all_stay [] [] [] [] all = tt
  all_stay [] [] [] (t ∷ ts) all = elim all [ ]
  all_stay [] [] (u ∷ us) ts all = elim all [ ]
  all_stay [] (a ∷ as') us ts all = elim all [ ]
  all_stay (s ∷ ss) [] us ts all = elim all [ ]
  all_stay (s ∷ ss) (a ∷ as') [] ts all = elim all [ ]
  all_stay (s ∷ ss) (a ∷ as') (u ∷ us) [] all = elim all [ ]
  all_stay (s ∷ ss) (a ∷ as') (u ∷ us) (t ∷ ts) all = (stays s a u t all.0, all_stay ss as' us ts all.1)

-- ---- WHERE SOMETHING WAS GAINED, and nothing is to be repaired
clear_way : (state : InState) → half_way 1 1 state ≡ None → state ≡ InState.Clear
clear_way InState.Clear e = refl
clear_way InState.Doubt e = absurd (cc)
clear_way InState.Asked e = absurd (cc)
clear_way InState.Refetch e = absurd (cc)

pub begins_waiting : {M Q R S : Type 0} (v : Server M S) (l : Life M Q R) (n : Node M S) (w : Link M S) (q : Wanted) (m : Memory) → Agrees w → Shows l n w q → way_of 1 1 l ≡ None → Waiting v l n m new_waits
begins_waiting {M = M} v l n w q m agrees shows repaired =
    let way : half_way 1 1 l.era.side.halves.inn.state ≡ None = sym (ap (stand_way 1 1 l.era.side.halves.inn.state) shows.stands) ∙ repaired in
    record { link = w; wanted = q; waits = IsWaiting.new w q m agrees (ap (λ (h : Halves M). h.inn.state) shows.halves ∙ clear_way l.era.side.halves.inn.state way); shows = shows; unserved = λ no. absurd (omega (arith, no)) }
