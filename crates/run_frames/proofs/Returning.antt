-- A frame that came back, for all slaves of a ring.
use Rattle.std.proofs.Common.{◌≡◌, ◌⊎◌, ℕ, suc, ◌+◌, ◌<◌, ◌≤◌, Bool, true, false, Option, Some, None, List, [], ◌∷◌, length, map, refl, sym, ap, ◌∙◌, subst, arith, if◌then◌else◌}
use Rattle.std.specs.Prelude.{nat_le}
use Rattle.life_runs.specs.of_exchange_model.Exchange.{Speech}
use Rattle.life_runs.specs.of_link_model.Master.{InState}
use Rattle.life_runs.specs.of_segment_model.Record.{News}
use Rattle.life_runs.specs.of_segment_model.Slaves.{Datagram, Found}
use Rattle.life_runs.specs.of_life_model.Lives.{Life, Spot, Stand, Opening, life_back}
use Rattle.life_runs.specs.of_life_model.Deadlines.{Standing, deadline, deadline_of, repair, IsTimed, Mends, MendsIf, AllMend}
use Rattle.life_runs.specs.of_life_model.Gains.{gains}
use Rattle.life_runs.specs.of_life_model.Repairs.{Way, way_of, stand_way, opening_way}
use Rattle.life_runs.proofs.of_life_model.Gaining.{next_same, back_grows, lost_same, state_gains}
use Rattle.life_runs.proofs.of_life_model.Halving.{half_goes}
use Rattle.life_runs.proofs.of_life_model.Mending.{nearer_end, ring_ends}
use Rattle.life_runs.proofs.of_life_model.Openings.{opening_goes}
use Rattle.run_frames.specs.Brings.{Brings, AllBring}
use Rattle.run_frames.specs.Clocks.{Clocked, standing, alone, in_round, ahead_at, one_by_one, reopened, gains_all, reopened_all}
use Rattle.run_frames.specs.Goes.{Under, IsUnder, AllUnder, IsClocked, AllClocked, NoneUnder, clocked_behind, back_life, all_back}
use Rattle.run_frames.specs.Orders.{live_at, under_at, live_round, last_of, IsRound, IsOpening, AllRepaired}
use Rattle.run_frames.proofs.Back.{OpeningGoes, HalfGoes}
use Rattle.run_frames.proofs.Clocking.{ahead_less}
use Rattle.run_frames.proofs.Losing.{stays_less}
use Rattle.run_frames.proofs.Lost.{timed, stays_on}
use Rattle.run_frames.proofs.Meeting.{Met, met_one, opening_none, opening_some, met_stands, passed_back, live_back}
use Rattle.run_frames.proofs.Reopening.{WentOn}
use Rattle.run_frames.proofs.Same.{GainsBefore, GainsLost}
use Rattle.run_frames.proofs.Waiting.{LiveBefore}
use Rattle.run_frames.proofs.Walking.{comes_nearer}

-- what the law of gains says of a frame that came back, and the law of deadlines of repairs
abbrev pub GainsGrow : (M Q R : Type 0) → Type 0
GainsGrow M Q R = (x : Speech M Q R) (acknowledged : Q → Bool) (more : M → Bool) (passed : Q → Bool) (frame : ℕ) (spot : Spot) (news : List (News M)) (back : List (Datagram M)) (came : Option (Bool × Option Found)) (l : Life M Q R) →
    gains l ≤ gains (life_back x acknowledged more passed frame spot news back came l l.stand)

abbrev pub Nearer : Type 0
Nearer = (slaves pace : ℕ) (a b : Standing) (w : Way) → IsTimed slaves pace a → IsTimed slaves pace b → a.way ≡ Some w → Mends slaves pace a b w → suc (deadline slaves b) ≤ deadline slaves a

abbrev pub RingEnds : Type 0
RingEnds = (slaves pace : ℕ) (before behind : List Standing) → AllMend slaves pace before behind → (repair slaves behind ≡ 0) ⊎ (suc (repair slaves behind) ≤ repair slaves before)

-- what the laws below say
pub record Known (M Q R : Type 0) : Type 0 where
  pub before : GainsBefore M Q R
  pub grows : GainsGrow M Q R
  pub openings : OpeningGoes M Q R
  pub halves : HalfGoes M Q R
  pub went : WentOn M Q R
  pub nearer : Nearer
  pub ends : RingEnds

module _ {M Q R : Type 0} (facts : Known M Q R) (x : Spot → Speech M Q R) (acknowledged : Q → Bool) (more : M → Bool) (passed : Q → Bool) (number : ℕ) (sent back : List (Datagram M)) where
  abbrev behind : Clocked M Q R → Under M Q R → Life M Q R
  behind a u = back_life x acknowledged more passed number back a u

  abbrev Turn : Clocked M Q R → Under M Q R → Type 0
  Turn a u = IsUnder x acknowledged more passed number sent a u

  abbrev AllTurn : List (Clocked M Q R) → List (Under M Q R) → Type 0
  AllTurn as' us = AllUnder x acknowledged more passed number sent as' us

  abbrev all : List (Clocked M Q R) → List (Under M Q R) → List (Clocked M Q R)
  all as' us = all_back x acknowledged more passed number back as' us

  -- ONE SLAVE
  one_grows : (a : Clocked M Q R) (u : Under M Q R) → Turn a u → gains a.life ≤ gains (behind a u)
  one_grows a u t = subst (λ z. z ≤ gains (behind a u)) (ap gains t.life ∙ facts.before (x a.spot) acknowledged more passed number a.life t.pick) (facts.grows (x a.spot) acknowledged more passed number a.spot u.news back u.came u.life)

  pub back_clocked : (slowest : ℕ) (a : Clocked M Q R) (u : Under M Q R) → IsClocked slowest a → Turn a u → Brings back a u → IsClocked slowest (clocked_behind number a (behind a u))
  back_clocked slowest a u k t b =
      let both = met_stands facts.before facts.openings facts.halves facts.went x acknowledged more passed number sent back 1 slowest 0 0 a u k t b in
      record { stands = both.0; hand = both.1; gained = omega (arith, k.gained, one_grows a u t); some = k.some; most = k.most }

  -- ALL OF THEM
  pub back_clocked_all : (slowest : ℕ) (as' : List (Clocked M Q R)) (us : List (Under M Q R)) → AllClocked slowest as' → AllTurn as' us → AllBring back as' us → AllClocked slowest (all as' us)
  back_clocked_all slowest [] [] k t b = tt
  back_clocked_all slowest [] (u ∷ us) k t b = absurd t
  back_clocked_all slowest (a ∷ as') [] k t b = absurd t
  back_clocked_all slowest (a ∷ as') (u ∷ us) k t b = (back_clocked slowest a u k.0 t.0 b.0, back_clocked_all slowest as' us k.1 t.1 b.1)

  pub as_many : (as' : List (Clocked M Q R)) (us : List (Under M Q R)) → AllTurn as' us → length (all as' us) ≡ length as'
  as_many [] [] t = refl
  as_many [] (u ∷ us) t = absurd t
  as_many (a ∷ as') [] t = absurd t
  as_many (a ∷ as') (u ∷ us) t = ap suc (as_many as' us t.1)

  pub all_grow : (as' : List (Clocked M Q R)) (us : List (Under M Q R)) → AllTurn as' us → gains_all as' ≤ gains_all (all as' us)
  all_grow [] [] t = omega arith
  all_grow [] (u ∷ us) t = absurd t
  all_grow (a ∷ as') [] t = absurd t
  all_grow (a ∷ as') (u ∷ us) t = omega (arith, one_grows a u t.0, all_grow as' us t.1)

  -- one that is live behind it was
  pub live_before : (slowest count : ℕ) (as' : List (Clocked M Q R)) (us : List (Under M Q R)) → AllClocked slowest as' → AllTurn as' us → LiveBefore slowest count as' (all as' us)
  live_before slowest count [] [] k t = tt
  live_before slowest count [] (u ∷ us) k t = absurd t
  live_before slowest count (a ∷ as') [] k t = absurd t
  live_before slowest count (a ∷ as') (u ∷ us) k t = (
    (λ live. live_back facts.before facts.openings facts.halves facts.went x acknowledged more passed number sent back 1 slowest 0 0 a u k.0 t.0 live, refl),
    live_before slowest count as' us k.1 t.1,
  )

  pub as_many_under : (as' : List (Clocked M Q R)) (us : List (Under M Q R)) → AllTurn as' us → length us ≡ length as'
  as_many_under [] [] t = refl
  as_many_under [] (u ∷ us) t = absurd t
  as_many_under (a ∷ as') [] t = absurd t
  as_many_under (a ∷ as') (u ∷ us) t = ap suc (as_many_under as' us t.1)

  -- ---- side by side

  -- one of these was reopened by a state service, or all that is repaired mends
  pub data AllMet (slowest count : ℕ) (last next : Option ℕ) (place : ℕ) (as' : List (Clocked M Q R)) (bs : List (Clocked M Q R)) : Type 0 where
    anew : suc (reopened_all as') ≤ reopened_all bs → suc (gains_all as') ≤ gains_all bs → AllMet slowest count last next place as' bs
    nearer : reopened_all bs ≡ reopened_all as' → AllMend count slowest (in_round slowest count last number place as') (in_round slowest count next (suc number) place bs) → AllMet slowest count last next place as' bs

  pub side_by_side : (slowest count : ℕ) (last next : Option ℕ) (place : ℕ) (as' : List (Clocked M Q R)) (us : List (Under M Q R)) → place + length as' ≤ count → AllClocked slowest as' → AllTurn as' us → AllBring back as' us →
      ((i k : ℕ) → k ≡ place + i → i < length as' → live_at as' i ≡ true → under_at us i ≡ false → suc (ahead_at count next k) ≤ ahead_at count last k) → AllMet slowest count last next place as' (all as' us)
  side_by_side slowest count last next place [] [] long k t b near = AllMet.nearer refl tt
  side_by_side slowest count last next place [] (u ∷ us) long k t b near = absurd t
  side_by_side slowest count last next place (a ∷ as') [] long k t b near = absurd t
  side_by_side slowest count last next place (a ∷ as') (u ∷ us) long k t b near =
      go (met_one facts.before facts.openings facts.halves facts.went x acknowledged more passed number sent back count slowest (ahead_at count last place) (ahead_at count next place) a u k.0 t.0 b.0
      (λ is out. near 0 place (omega arith) (omega arith) is out))
      (side_by_side slowest count last next (suc place) as' us (omega (arith, long)) k.1 t.1 b.1 (λ i j e less is out. near (suc i) j (omega (arith, e)) (omega (arith, less)) is out)) (all_grow as' us t.1)
    where
      there : place < count
      there = omega (arith, long)

      go : Met count slowest (ahead_at count last place) (ahead_at count next place) number a (behind a u) → AllMet slowest count last next (suc place) as' (all as' us) → gains_all as' ≤ gains_all (all as' us) → AllMet slowest count last next place (a ∷ as') (all (a ∷ as') (u ∷ us))
      go (Met.anew r g) (AllMet.anew rs gs) grows = AllMet.anew (omega (arith, r, rs)) (omega (arith, g, gs))
      go (Met.anew r g) (AllMet.nearer rs m) grows = AllMet.anew (omega (arith, r, rs)) (omega (arith, g, grows))
      go (Met.nearer r m) (AllMet.anew rs gs) grows = AllMet.anew (omega (arith, r, rs)) (omega (arith, one_grows a u t.0, gs))
      go (Met.nearer r m) (AllMet.nearer rs ms) grows = AllMet.nearer (omega (arith, r, rs)) (
        (
          timed count slowest (ahead_at count last place) number a k.0 (ahead_less count last place there),
          timed count slowest (ahead_at count next place) (suc number) (clocked_behind number a (behind a u)) (back_clocked slowest a u k.0 t.0 b.0) (ahead_less count next place there),
          m,
        ),
        ms,
      )

  -- each live slave that a frame of a round doesn't carry comes nearer
  pub round_near : (count : ℕ) (last next : Option ℕ) (as' : List (Clocked M Q R)) (us : List (Under M Q R)) (ps : List ℕ) → count ≡ length as' → IsRound count last as' us ps → next ≡ last_of last ps →
      (i k : ℕ) → k ≡ 0 + i → i < length as' → live_at as' i ≡ true → under_at us i ≡ false → suc (ahead_at count next k) ≤ ahead_at count last k
  round_near count last next as' us ps long r n i k e less is out =
      let same : i ≡ k = omega (arith, e) in
      let there : i < count = omega (arith, long, less) in
      let near : suc (ahead_at count (last_of last ps) i) ≤ ahead_at count last i = comes_nearer (live_at as') count last last ps (live_round count last as') i refl r.first there is (sym (r.under i there) ∙ out) in
      subst (λ z. suc (ahead_at count next z) ≤ ahead_at count last z) same (subst (λ z. suc (ahead_at count z i) ≤ ahead_at count last i) (sym n) near)

  -- ---- one by one

  -- one that isn't carried
  passed_same : (slowest : ℕ) (a : Clocked M Q R) (u : Under M Q R) → IsClocked slowest a → Turn a u → Brings back a u → u.under ≡ false →
      (deadline 1 (alone slowest (suc number) (clocked_behind number a (behind a u))) ≤ deadline 1 (alone slowest number a)) × (reopened (behind a u) ≡ reopened a.life)
  passed_same slowest a u k t b out =
      let p = passed_back facts.before facts.openings facts.halves facts.went x acknowledged more passed number sent back 1 slowest 0 0 a u k t b out in (
        stays_less 1 slowest (alone slowest number a) (alone slowest (suc number) (clocked_behind number a (behind a u))) (timed 1 slowest 0 number a k (omega arith)) (timed 1 slowest 0 (suc number) (clocked_behind number a (behind a u)) (back_clocked slowest a u k t b) (omega arith))
            (stays_on 1 slowest 0 0 number a (behind a u) k p.0 (omega arith)),
        p.1,
      )

  -- those that aren't carried
  none_met : (slowest : ℕ) (as' : List (Clocked M Q R)) (us : List (Under M Q R)) → AllClocked slowest as' → AllTurn as' us → AllBring back as' us → NoneUnder us →
      (one_by_one (map (alone slowest (suc number)) (all as' us)) ≤ one_by_one (map (alone slowest number) as')) × (reopened_all (all as' us) ≡ reopened_all as')
  none_met slowest [] [] k t b n = (omega arith, refl)
  none_met slowest [] (u ∷ us) k t b n = absurd t
  none_met slowest (a ∷ as') [] k t b n = absurd t
  none_met slowest (a ∷ as') (u ∷ us) k t b n =
      let one = passed_same slowest a u k.0 t.0 b.0 n.0 in
      let others = none_met slowest as' us k.1 t.1 b.1 n.1 in
      (omega (arith, one.0, others.0), omega (arith, one.1, others.1))

  -- the one that is brought up
  opened_one : (slowest : ℕ) (a : Clocked M Q R) (u : Under M Q R) (o : Opening) → IsClocked slowest a → Turn a u → Brings back a u → u.under ≡ true → u.life.stand ≡ Stand.Opens o →
      (suc (deadline 1 (alone slowest (suc number) (clocked_behind number a (behind a u)))) ≤ deadline 1 (alone slowest number a)) × (reopened (behind a u) ≡ reopened a.life)
  opened_one slowest a u o k t b is e =
      let same = opening_none facts.before facts.openings facts.halves facts.went x acknowledged more passed number sent back 1 slowest 0 0 a u k t o e is b in
      (by same (met_one facts.before facts.openings facts.halves facts.went x acknowledged more passed number sent back 1 slowest 0 0 a u k t b (λ live out. absurd (cc))), same)
    where
      by : reopened (behind a u) ≡ reopened a.life → Met 1 slowest 0 0 number a (behind a u) → suc (deadline 1 (alone slowest (suc number) (clocked_behind number a (behind a u)))) ≤ deadline 1 (alone slowest number a)
      by same (Met.anew r g) = absurd (omega (arith, same, r))
      by same (Met.nearer r m) =
          let way = opening_some facts.before facts.openings facts.halves facts.went x acknowledged more passed number sent back 1 slowest 0 0 a u k t o e in
          facts.nearer 1 slowest (alone slowest number a) (alone slowest (suc number) (clocked_behind number a (behind a u))) (opening_way 1 slowest o) (timed 1 slowest 0 number a k (omega arith))
          (timed 1 slowest 0 (suc number) (clocked_behind number a (behind a u)) (back_clocked slowest a u k t b) (omega arith)) way
          (subst (MendsIf 1 slowest (alone slowest number a) (alone slowest (suc number) (clocked_behind number a (behind a u)))) way m)

  pub opening_met : (slowest : ℕ) (as' : List (Clocked M Q R)) (us : List (Under M Q R)) → AllClocked slowest as' → AllTurn as' us → AllBring back as' us → IsOpening us →
      (suc (one_by_one (map (alone slowest (suc number)) (all as' us))) ≤ one_by_one (map (alone slowest number) as')) × (reopened_all (all as' us) ≡ reopened_all as')
  opening_met slowest [] us k t b (IsOpening.here u vs o is e n) = absurd t
  opening_met slowest [] us k t b (IsOpening.there u vs out more') = absurd t
  opening_met slowest (a ∷ as') us k t b (IsOpening.here u vs o is e n) =
      let one = opened_one slowest a u o k.0 t.0 b.0 is e in
      let others = none_met slowest as' vs k.1 t.1 b.1 n in
      (omega (arith, one.0, others.0), omega (arith, one.1, others.1))
  opening_met slowest (a ∷ as') us k t b (IsOpening.there u vs out more') =
      let one = passed_same slowest a u k.0 t.0 b.0 out in
      let others = opening_met slowest as' vs k.1 t.1 b.1 more' in
      (omega (arith, one.0, others.0), omega (arith, one.1, others.1))

-- NOTHING TO REPAIR in a ring of one is nothing in a ring of any size
none_at : {M Q R : Type 0} (slaves pace : ℕ) (l : Life M Q R) → way_of 1 1 l ≡ None → way_of slaves pace l ≡ None
none_at slaves pace l e = by l.stand l.era.side.halves.inn.state e
  where
    by : (s : Stand) (state : InState) → stand_way 1 1 state s ≡ None → stand_way slaves pace state s ≡ None
    by (Stand.Opens o) state f = absurd (cc)
    by Stand.Gone state f = refl
    by Stand.Open InState.Clear f = refl
    by Stand.Open InState.Doubt f = absurd (cc)
    by Stand.Open InState.Asked f = absurd (cc)
    by Stand.Open InState.Refetch f = absurd (cc)

pub repaired : {M Q R : Type 0} (slowest count : ℕ) (last : Option ℕ) (number place : ℕ) (cs : List (Clocked M Q R)) → AllRepaired cs → repair count (in_round slowest count last number place cs) ≡ 0
repaired slowest count last number place [] r = refl
repaired slowest count last number place (c ∷ cs) r =
    let one : deadline count (standing count slowest (ahead_at count last place) number c) ≡ 0 = ap (deadline_of count (standing count slowest (ahead_at count last place) number c)) (none_at count slowest c.life r.0) in
    go (nat_le (repair count (in_round slowest count last number (suc place) cs)) (deadline count (standing count slowest (ahead_at count last place) number c))) one (repaired slowest count last number (suc place) cs r.1)
  where
    go : (b : Bool) → deadline count (standing count slowest (ahead_at count last place) number c) ≡ 0 → repair count (in_round slowest count last number (suc place) cs) ≡ 0 →
        (if b then deadline count (standing count slowest (ahead_at count last place) number c) else repair count (in_round slowest count last number (suc place) cs)) ≡ 0
    go true e f = e
    go false e f = f

-- ALL THAT IS KNOWN of any services
pub known : (M Q R : Type 0) → Known M Q R
known M Q R = record {
  before = λ x acknowledged more passed frame l pick. next_same x acknowledged more passed frame l l.stand pick;
  grows = λ x acknowledged more passed frame spot news back came l. back_grows x acknowledged more passed frame spot news back came l l.stand;
  openings = λ slaves pace frame l o done found at d. opening_goes slaves pace frame l o done found at d;
  halves = λ x acknowledged more passed slaves pace frame spot news back came l d w one a e stands. half_goes x acknowledged more passed slaves pace frame spot news back came l d w one a e stands;
  went = λ x acknowledged more passed frame spot news back came l d duty one hand is met steps. state_gains x acknowledged more passed frame spot news back came l d duty one hand is met steps;
  nearer = λ slaves pace a b w s t e m. nearer_end slaves pace a b w s t e m;
  ends = λ slaves pace before behind m. ring_ends slaves pace before behind m;
}

pub gains_lost : (M Q R : Type 0) → GainsLost M Q R
gains_lost M Q R = λ x acknowledged more passed spot news sent l. lost_same x acknowledged more passed spot news sent l l.stand
