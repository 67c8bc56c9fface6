-- What a frame that came back makes of one slave.
use Rattle.std.proofs.Common.{◌≡◌, ◌⊎◌, ℕ, suc, ◌+◌, ◌≤◌, ◌==◌, ◌&&◌, Bool, true, false, Option, Some, None, List, [], ◌∷◌, ◌++◌, refl, sym, ap, ◌∙◌, subst, arith, if◌then◌else◌, inl, inr, eqb-true}
use Rattle.std.proofs.lemmas.Bool.{cases_lt}
use Rattle.life_runs.specs.of_exchange_model.Exchange.{Speech}
use Rattle.life_runs.specs.of_link_model.Frames.{halves_after}
use Rattle.life_runs.specs.of_link_model.Master.{InState}
use Rattle.life_runs.specs.of_segment_model.Slaves.{Datagram, Found, grams}
use Rattle.life_runs.specs.of_state_model.Accounts.{account_back}
use Rattle.life_runs.specs.of_life_model.Lives.{Era, Life, Stand, Spot, Opening, life_back, era_back, opening_back, shows_clear, last_step, clears, opens, steps_on, is_shown, reopens}
use Rattle.life_runs.specs.of_life_model.Own.{own}
use Rattle.life_runs.specs.of_life_model.Deadlines.{Mends, MendsIf, is_vain}
use Rattle.life_runs.specs.of_life_model.Gains.{gains}
use Rattle.life_runs.specs.of_life_model.Repairs.{Way, way_of, stand_way, half_way, opening_way, whole_way, StandsAt, IsAt, awaits_at}
use Rattle.run_frames.specs.Brings.{OpeningBrings, HalfBrings, StandBrings, Brings}
use Rattle.run_frames.specs.Clocks.{Clocked, standing, duty_reopens, eras_reopened, reopened}
use Rattle.run_frames.specs.Goes.{Under, IsUnder, IsClocked, HandAt, clocked_behind, is_same}
use Rattle.run_frames.specs.Losses.{Stays}
use Rattle.run_frames.specs.Orders.{is_live, is_opening}
use Rattle.run_frames.proofs.Access.{SameAccess, same_way, same_before, next_same, next_stands, stands_open}
use Rattle.run_frames.proofs.Back.{OpeningGoes, OpeningGone, opening_gone, HalfGoes, HalfGone, half_gone}
use Rattle.run_frames.proofs.Clocking.{ticks_on}
use Rattle.run_frames.proofs.Lost.{stays_on}
use Rattle.run_frames.proofs.Reopening.{Reopens, reopens_or, WentOn, going_gains}
use Rattle.run_frames.proofs.Same.{GainsBefore, next_hand, next_reopened}

-- ONE SLAVE behind a frame that came back: a state service began to reopen it, and gained; or what it has to repair mends, and none did
pub data Met {M Q R : Type 0} (slaves slowest before later number : ℕ) (a : Clocked M Q R) (m : Life M Q R) : Type 0 where
  anew : suc (reopened a.life) ≤ reopened m → suc (gains a.life) ≤ gains m → Met slaves slowest before later number a m
  nearer : reopened m ≡ reopened a.life →
      MendsIf slaves slowest (standing slaves slowest before number a) (standing slaves slowest later (suc number) (clocked_behind number a m)) (way_of slaves slowest a.life) → Met slaves slowest before later number a m

-- what is to be repaired of a life, in a ring of any size, is what was
pub same_mends : {M Q R : Type 0} (slaves slowest before later number : ℕ) (a : Clocked M Q R) (m : Life M Q R) → IsClocked slowest a → SameAccess a.life m → suc later ≤ before →
    MendsIf slaves slowest (standing slaves slowest before number a) (standing slaves slowest later (suc number) (clocked_behind number a m)) (way_of slaves slowest a.life)
same_mends slaves slowest before later number a m k same near = by (way_of slaves slowest a.life) refl (stays_on slaves slowest before later number a m k same (omega (arith, near)))
  where
    by : (w : Option Way) → way_of slaves slowest a.life ≡ w → Stays (standing slaves slowest before number a) (standing slaves slowest later (suc number) (clocked_behind number a m)) →
        MendsIf slaves slowest (standing slaves slowest before number a) (standing slaves slowest later (suc number) (clocked_behind number a m)) w
    by None e s = same_way slaves slowest a.life m same ∙ e
    by (Some w) e s = Mends.passes (same_way slaves slowest a.life m same ∙ e) s.stepped near s.ticks

-- the same where it was carried in vain
vain_mends : {M Q R : Type 0} (slaves slowest before later number : ℕ) (a : Clocked M Q R) (m : Life M Q R) → IsClocked slowest a → SameAccess a.life m → ((w : Way) → way_of slaves slowest a.life ≡ Some w → is_vain w a.stepped ≡ true) →
    MendsIf slaves slowest (standing slaves slowest before number a) (standing slaves slowest later (suc number) (clocked_behind number a m)) (way_of slaves slowest a.life)
vain_mends slaves slowest before later number a m k same vain = by (way_of slaves slowest a.life) refl
  where
    by : (w : Option Way) → way_of slaves slowest a.life ≡ w → MendsIf slaves slowest (standing slaves slowest before number a) (standing slaves slowest later (suc number) (clocked_behind number a m)) w
    by None e = same_way slaves slowest a.life m same ∙ e
    by (Some w) e = Mends.vain (same_way slaves slowest a.life m same ∙ e) (vain w e) (ticks_on a.pace number (is_same (way_of 1 1 a.life) (way_of 1 1 m)) a.stepped k.some)

-- the same where it was carried and went on
on_mends : {M Q R : Type 0} (slaves slowest before later number : ℕ) (a : Clocked M Q R) (m : Life M Q R) (way : Option Way) → ((way ≡ None) → way_of slaves slowest m ≡ None) → ((w : Way) → way ≡ Some w → whole_way slaves slowest (way_of slaves slowest m) ≤ w.rest) →
    MendsIf slaves slowest (standing slaves slowest before number a) (standing slaves slowest later (suc number) (clocked_behind number a m)) way
on_mends slaves slowest before later number a m None none on = none refl
on_mends slaves slowest before later number a m (Some w) none on = Mends.on (on w refl)

clear_of : (slaves pace : ℕ) (s : InState) → half_way slaves pace s ≡ None → s ≡ InState.Clear
clear_of slaves pace InState.Clear e = refl
clear_of slaves pace InState.Doubt e = absurd (cc)
clear_of slaves pace InState.Asked e = absurd (cc)
clear_of slaves pace InState.Refetch e = absurd (cc)

some_same : {X : Type 0} {v w : X} → Some v ≡ Some w → v ≡ w
some_same e = cc

-- the gains and the epochs of an opening are those before it
past_reopened : {M Q R : Type 0} (es : List (Era M Q R)) (e : Era M Q R) → eras_reopened (es ++ e ∷ []) ≡ eras_reopened es + duty_reopens e.account.hand
past_reopened [] e = omega arith
past_reopened (d ∷ es) e = omega (arith, past_reopened es e)

opening_reopened : {M Q R : Type 0} (frame : ℕ) (l : Life M Q R) (o : Opening) (done : Bool) (found : Option Found) → reopened (opening_back frame l o done found) ≡ reopened l
opening_reopened {M} {Q} {R} frame l o done found = go (shows_clear o) (done && is_shown 1 found) (o.step == last_step o) (done && is_shown o.state found)
  where
    go : (p b q c : Bool) → reopened (if p then (if b then clears frame l o else l) else if q then (if c then opens frame l else l) else steps_on l o) ≡ reopened l
    go true true q c = omega (arith, past_reopened l.past l.era)
    go true false q c = refl
    go false b true true = refl
    go false b true false = refl
    go false b false c = refl

-- behind it the slave is being opened yet, or has nothing to repair
opening_ends : {M Q R : Type 0} (frame : ℕ) (l : Life M Q R) (o : Opening) (done : Bool) (found : Option Found) → l.stand ≡ Stand.Opens o → IsAt l o → (let m = opening_back frame l o done found in (is_opening m.stand ≡ true) ⊎ (way_of 1 1 m ≡ None))
opening_ends {M} {Q} {R} frame l o done found e at = go (shows_clear o) (done && is_shown 1 found) (o.step == last_step o) (done && is_shown o.state found) refl
  where
    nine : (a : Bool) (s : ℕ) → a ≡ true → (s == (if a then 9 else 5)) ≡ true → 3 ≤ s
    nine true s is h = (let same = eqb-true s 9 h in omega (arith, same))
    nine false s is h = absurd (cc)

    go : (p b q c : Bool) → (o.step == last_step o) ≡ q → (let m : Life M Q R = if p then (if b then clears frame l o else l) else if q then (if c then opens frame l else l) else steps_on l o in (is_opening m.stand ≡ true) ⊎ (way_of 1 1 m ≡ None))
    go true true q c h = inl refl
    go true false q c h = inl (ap is_opening e)
    go false b true true h = inr (ap (half_way 1 1) (at.new (λ is. nine o.again o.step is h)))
    go false b true false h = inl (ap is_opening e)
    go false b false c h = inl refl

-- and its slave stands where one may, with no such service in hand
opening_hand : {M Q R : Type 0} (frame : ℕ) (l : Life M Q R) (o : Opening) (done : Bool) (found : Option Found) → l.stand ≡ Stand.Opens o → IsAt l o → HandAt l l.stand → (let m = opening_back frame l o done found in HandAt m m.stand)
opening_hand {M} {Q} {R} frame l o done found e at hand = by o.again o.step o.state o.own refl (subst (HandAt l) e hand)
  where
    by : (again : Bool) (step state : ℕ) (own' : Bool) → o ≡ record { again = again; step = step; state = state; own = own' } → ((o.again ≡ true → 3 ≤ o.step) → duty_reopens l.era.account.hand ≡ 0) → (let m = opening_back frame l o done found in HandAt m m.stand)
    by again step state own' f none = go (shows_clear o) (done && is_shown 1 found) (o.step == last_step o) (done && is_shown o.state found) refl refl
      where
        go : (p b q c : Bool) → shows_clear o ≡ p → (o.step == last_step o) ≡ q → (let m : Life M Q R = if p then (if b then clears frame l o else l) else if q then (if c then opens frame l else l) else steps_on l o in HandAt m m.stand)
        go true true q c g h = λ is. refl
        go true false q c g h = hand
        go false b true true g h = none (λ is. nine o.again o.step is h)
          where
            nine : (a : Bool) (s : ℕ) → a ≡ true → (s == (if a then 9 else 5)) ≡ true → 3 ≤ s
            nine true s is h = (let same = eqb-true s 9 h in omega (arith, same))
            nine false s is h = absurd (cc)
        go false b true false g h = hand
        go false b false c g h = λ is. none (λ again'. above o.again o.step again' g (is again'))
          where
            above : (a : Bool) (s : ℕ) → a ≡ true → (a && s == 2) ≡ false → 3 ≤ suc s → 3 ≤ s
            above false s is g more = absurd (cc)
            above true s is g more = elim (cases_lt s 3) [ inl less ↦ absurd (let two : s ≡ 2 = omega (arith, less, more) in let yes = ap (λ z. z == 2) two in cc) | inr less ↦ less ]

-- ---- the slave

-- it stands where one may
abbrev pub Both : {M Q R : Type 0} → Life M Q R → Type 0
Both m = StandsAt m m.stand × HandAt m m.stand

-- the way of a life that stands so
stands_way : {M Q R : Type 0} (slaves pace : ℕ) (l : Life M Q R) (s : Stand) → l.stand ≡ s → way_of slaves pace l ≡ stand_way slaves pace l.era.side.halves.inn.state s
stands_way slaves pace l s e = ap (stand_way slaves pace l.era.side.halves.inn.state) e

module _ {M Q R : Type 0} (gains_before : GainsBefore M Q R) (openings : OpeningGoes M Q R) (halves : HalfGoes M Q R) (went : WentOn M Q R) (x : Spot → Speech M Q R) (acknowledged : Q → Bool) (more : M → Bool) (passed : Q → Bool) (number : ℕ) (sent back : List (Datagram M))
    (slaves slowest before later : ℕ) (a : Clocked M Q R) (u : Under M Q R) (k : IsClocked slowest a) (t : IsUnder x acknowledged more passed number sent a u) where
  abbrev Result : Life M Q R → Type 0
  Result m = Met slaves slowest before later number a m

  abbrev behind : Stand → Life M Q R
  behind s = life_back (x a.spot) acknowledged more passed number a.spot u.news back u.came u.life s

  before_same : SameAccess a.life u.life
  before_same = subst (λ z. SameAccess a.life z) (sym t.life) (next_same (x a.spot) acknowledged more passed number a.life a.life.stand t.pick)

  before_stands : StandsAt u.life u.life.stand
  before_stands = subst (λ z. StandsAt z z.stand) (sym t.life) (next_stands (x a.spot) acknowledged more passed number a.life a.life.stand t.pick refl k.stands)

  before_hand : HandAt u.life u.life.stand
  before_hand = subst (λ z. HandAt z z.stand) (sym t.life) (next_hand (x a.spot) acknowledged more passed number a.life a.life.stand t.pick refl k.hand)

  before_reopened : reopened u.life ≡ reopened a.life
  before_reopened = ap reopened t.life ∙ next_reopened (x a.spot) acknowledged more passed number a.life a.life.stand t.pick

  before_gains : gains u.life ≡ gains a.life
  before_gains = ap gains t.life ∙ gains_before (x a.spot) acknowledged more passed number a.life t.pick

  -- its way is that before
  before_way : (s : Stand) → u.life.stand ≡ s → way_of slaves slowest a.life ≡ stand_way slaves slowest u.life.era.side.halves.inn.state s
  before_way s e = sym (same_way slaves slowest a.life u.life before_same) ∙ stands_way slaves slowest u.life s e

  -- one that is gone has nothing to repair
  gone : u.life.stand ≡ Stand.Gone → Result u.life
  gone e = Met.nearer before_reopened (on_mends slaves slowest before later number a u.life (way_of slaves slowest a.life) (λ is. same_way slaves slowest a.life u.life before_same ∙ is) (λ w is. absurd (let never = sym (before_way Stand.Gone e) ∙ is in cc)))

  -- one that keeps its access
  kept : (m : Life M Q R) → SameAccess u.life m → reopened m ≡ reopened u.life → suc later ≤ before → Result m
  kept m same r near = Met.nearer (r ∙ before_reopened) (same_mends slaves slowest before later number a m k (same_before a.life u.life m before_same same) near)

  -- one that is opened
  opening : (o : Opening) → u.life.stand ≡ Stand.Opens o → OpeningBrings a.stepped o u.came → Result (behind (Stand.Opens o))
  opening o e b = subst Result (sym (ap (λ z. life_back (x a.spot) acknowledged more passed number a.spot u.news back z u.life (Stand.Opens o)) b.is)) (by (opening_gone openings a.stepped number u.life o b.done b.found at b.shows))
    where
      at : IsAt u.life o
      at = subst (StandsAt u.life) e before_stands

      way : way_of slaves slowest a.life ≡ Some (opening_way slaves slowest o)
      way = before_way (Stand.Opens o) e

      by : OpeningGone a.stepped number u.life o b.done b.found → Result (opening_back number u.life o b.done b.found)
      by (OpeningGone.on goes) = Met.nearer (opening_reopened number u.life o b.done b.found ∙ before_reopened)
          (on_mends slaves slowest before later number a (opening_back number u.life o b.done b.found) (way_of slaves slowest a.life) (λ is. absurd (let never = sym way ∙ is in cc))
          (λ w is. subst (λ z. whole_way slaves slowest (way_of slaves slowest (opening_back number u.life o b.done b.found)) ≤ z.rest) (some_same (sym way ∙ is)) (goes slaves slowest).whole))
      by (OpeningGone.same kept' awaits stepped) = subst Result (sym kept') (Met.nearer before_reopened (vain_mends slaves slowest before later number a u.life k before_same
          (λ w is. subst (λ z. is_vain z a.stepped ≡ true) (some_same (sym way ∙ is)) (vainly (awaits_at o.again o.step) a.stepped awaits stepped))))
        where
          vainly : (b c : Bool) → b ≡ true → c ≡ false → (if b then (if c then false else true) else false) ≡ true
          vainly true false p q = refl
          vainly true true p q = absurd (cc)
          vainly false c p q = absurd (cc)

  -- one that is open
  abbrev era : Era M Q R
  era = era_back (x a.spot) acknowledged more passed a.spot.station number u.news back u.life.era

  abbrev here : Life M Q R
  here = record u.life { era = era }

  none_now : u.life.stand ≡ Stand.Open → duty_reopens u.life.era.account.hand ≡ 0
  none_now e = subst (HandAt u.life) e before_hand

  open_passed : u.life.stand ≡ Stand.Open → own a.spot.station back ≡ [] → suc later ≤ before → Result (behind Stand.Open)
  open_passed e nothing near = by (reopens_or here era.account.hand)
    where
      same_hand : duty_reopens era.account.hand ≡ duty_reopens u.life.era.account.hand
      same_hand = ap (λ z. duty_reopens (account_back a.spot.station number u.life.era.account z).hand) nothing

      same_state : here.era.side.halves.inn.state ≡ u.life.era.side.halves.inn.state
      same_state = ap (λ z. (halves_after a.spot.station u.life.era.side.halves (grams z)).inn.state) nothing

      by : Reopens here era.account.hand → Result (reopens here era.account.hand)
      by (Reopens.stays none is) = subst Result (sym is) (kept here (record { stand = refl; state = same_state }) (ap (λ z. eras_reopened u.life.past + z) same_hand) near)
      by (Reopens.goes state one is) = absurd (let never : duty_reopens era.account.hand ≡ 0 = same_hand ∙ none_now e in cc)

  open_met : u.life.stand ≡ Stand.Open → HalfBrings a.spot.station a.stepped u.life.era.side.halves.inn.state u.life.era.side.halves.inn.bit back → Result (behind Stand.Open)
  open_met e b = by (reopens_or here era.account.hand)
    where
      none : duty_reopens u.life.era.account.hand ≡ 0
      none = none_now e

      way : way_of slaves slowest a.life ≡ half_way slaves slowest u.life.era.side.halves.inn.state
      way = before_way Stand.Open e

      half : (m : Life M Q R) → m ≡ here → HalfGone a.stepped u.life m → reopened m ≡ reopened u.life → Result m
      half m is (HalfGone.on not_clear goes) r = Met.nearer (r ∙ before_reopened) (on_mends slaves slowest before later number a m (way_of slaves slowest a.life)
          (λ nothing. absurd (not_clear (clear_of slaves slowest u.life.era.side.halves.inn.state (sym way ∙ nothing)))) (λ w some. goes slaves slowest w (sym way ∙ some)))
      half m is (HalfGone.same kept' why) r = Met.nearer (r ∙ before_reopened) (vain_mends slaves slowest before later number a m k
          (same_before a.life u.life m before_same (record { stand = ap (λ z. z.stand) is; state = kept' })) (λ w some. vainly w (sym way ∙ some) why))
        where
          vainly : (w : Way) → half_way slaves slowest u.life.era.side.halves.inn.state ≡ Some w → (u.life.era.side.halves.inn.state ≡ InState.Clear) ⊎ ((u.life.era.side.halves.inn.state ≡ InState.Asked) × (a.stepped ≡ false)) → is_vain w a.stepped ≡ true
          vainly w some (inl clear) = absurd (let nothing = sym (ap (half_way slaves slowest) clear) ∙ some in cc)
          vainly w some (inr asked) =
              let is' : record { rest = slaves; awaits = true } ≡ w = some_same (sym (ap (half_way slaves slowest) asked.0) ∙ some) in
              subst (λ z. is_vain z a.stepped ≡ true) is' (ap (λ (z : Bool). if z then false else true) asked.1)

      by : Reopens here era.account.hand → Result (reopens here era.account.hand)
      by (Reopens.stays zero' is) =
          half (reopens here era.account.hand) is (half_gone (x a.spot) acknowledged more passed number a.spot u.news back u.came u.life halves a.stepped b (ap (λ z. z.stand) is ∙ e))
          (ap reopened is ∙ ap (λ z. eras_reopened u.life.past + z) (zero' ∙ sym none))
      by (Reopens.goes state one is) =
          let r : reopened (reopens here era.account.hand) ≡ eras_reopened u.life.past + duty_reopens era.account.hand = ap reopened is in
          let won = going_gains (x a.spot) acknowledged more passed number a.spot u.news back u.came u.life went none (inr (b.datagram, b.one)) one in
          Met.anew (omega (arith, r, one, before_reopened, none)) (omega (arith, won, before_gains))

  -- ANY
  pub met_one : Brings back a u → (is_live a.life.stand ≡ true → u.under ≡ false → suc later ≤ before) → Result (behind u.life.stand)
  met_one b near = by u.life.stand u.under refl refl
    where
      live : (s : Stand) → u.life.stand ≡ s → is_live a.life.stand ≡ is_live s
      live s e = ap is_live (sym before_same.stand ∙ e)

      by : (s : Stand) (z : Bool) → u.life.stand ≡ s → u.under ≡ z → Result (behind s)
      by Stand.Gone z e f = gone e
      by (Stand.Opens o) true e f = opening o e (subst (StandBrings back a u) e (b.some f))
      by (Stand.Opens o) false e f =
          subst Result (sym (ap (λ z. life_back (x a.spot) acknowledged more passed number a.spot u.news back z u.life (Stand.Opens o)) (b.none f).1)) (kept u.life (record { stand = refl; state = refl }) refl (near (live (Stand.Opens o) e) f))
      by Stand.Open true e f = open_met e (subst (StandBrings back a u) e (b.some f))
      by Stand.Open false e f = open_passed e (b.none f).0 (near (live Stand.Open e) f)

  -- no state service reopens a slave that is opened
  pub opening_none : (o : Opening) → u.life.stand ≡ Stand.Opens o → u.under ≡ true → Brings back a u → reopened (behind u.life.stand) ≡ reopened a.life
  opening_none o e f b =
      let c = subst (StandBrings back a u) e (b.some f) in
      ap (λ s. reopened (behind s)) e ∙ ap (λ z. reopened (life_back (x a.spot) acknowledged more passed number a.spot u.news back z u.life (Stand.Opens o))) c.is ∙ opening_reopened number u.life o c.done c.found ∙ before_reopened

  -- it is being opened yet, or has nothing to repair
  pub opened_back : (o : Opening) → u.life.stand ≡ Stand.Opens o → u.under ≡ true → Brings back a u → (is_opening (behind u.life.stand).stand ≡ true) ⊎ (way_of 1 1 (behind u.life.stand) ≡ None)
  opened_back o e f b =
      let c = subst (StandBrings back a u) e (b.some f) in
      subst (λ s. (is_opening (behind s).stand ≡ true) ⊎ (way_of 1 1 (behind s) ≡ None)) (sym e)
      (subst (λ m. (is_opening m.stand ≡ true) ⊎ (way_of 1 1 m ≡ None)) (sym (ap (λ z. life_back (x a.spot) acknowledged more passed number a.spot u.news back z u.life (Stand.Opens o)) c.is))
      (opening_ends number u.life o c.done c.found e (subst (StandsAt u.life) e before_stands)))

  -- its way is one
  pub opening_some : (o : Opening) → u.life.stand ≡ Stand.Opens o → way_of slaves slowest a.life ≡ Some (opening_way slaves slowest o)
  opening_some o e = before_way (Stand.Opens o) e

  -- one that isn't carried keeps its access
  pub passed_back : Brings back a u → u.under ≡ false → SameAccess a.life (behind u.life.stand) × (reopened (behind u.life.stand) ≡ reopened a.life)
  passed_back b out = by u.life.stand refl
    where
      same : (m : Life M Q R) → m ≡ u.life → SameAccess a.life m × (reopened m ≡ reopened a.life)
      same m is = (subst (SameAccess a.life) (sym is) before_same, ap reopened is ∙ before_reopened)

      same_hand : duty_reopens era.account.hand ≡ duty_reopens u.life.era.account.hand
      same_hand = ap (λ z. duty_reopens (account_back a.spot.station number u.life.era.account z).hand) (b.none out).0

      same_state : here.era.side.halves.inn.state ≡ u.life.era.side.halves.inn.state
      same_state = ap (λ z. (halves_after a.spot.station u.life.era.side.halves (grams z)).inn.state) (b.none out).0

      open_same : u.life.stand ≡ Stand.Open → Reopens here era.account.hand → SameAccess a.life (reopens here era.account.hand) × (reopened (reopens here era.account.hand) ≡ reopened a.life)
      open_same e (Reopens.stays none is) =
          (subst (SameAccess a.life) (sym is) (same_before a.life u.life here before_same (record { stand = refl; state = same_state })), ap reopened is ∙ (ap (λ z. eras_reopened u.life.past + z) same_hand ∙ before_reopened))
      open_same e (Reopens.goes state one is) = absurd (let never : duty_reopens era.account.hand ≡ 0 = same_hand ∙ none_now e in cc)

      by : (s : Stand) → u.life.stand ≡ s → SameAccess a.life (behind s) × (reopened (behind s) ≡ reopened a.life)
      by Stand.Gone e = same u.life refl
      by (Stand.Opens o) e = same (behind (Stand.Opens o)) (ap (λ z. life_back (x a.spot) acknowledged more passed number a.spot u.news back z u.life (Stand.Opens o)) (b.none out).1)
      by Stand.Open e = open_same e (reopens_or here era.account.hand)

  -- what stands behind it
  pub met_stands : Brings back a u → Both (behind u.life.stand)
  met_stands b = by u.life.stand u.under refl refl
    where
      old : Both u.life
      old = (before_stands, before_hand)

      opened_by : (o : Opening) → u.life.stand ≡ Stand.Opens o → (c : OpeningBrings a.stepped o u.came) → OpeningGone a.stepped number u.life o c.done c.found → Both (opening_back number u.life o c.done c.found)
      opened_by o e c (OpeningGone.on goes) = ((goes 1 1).stands, opening_hand number u.life o c.done c.found e (subst (StandsAt u.life) e before_stands) before_hand)
      opened_by o e c (OpeningGone.same kept' awaits stepped) = subst Both (sym kept') old

      open_by : u.life.stand ≡ Stand.Open → Reopens here era.account.hand → Both (reopens here era.account.hand)
      open_by e (Reopens.stays none is) = subst Both (sym is) (stands_open here u.life.stand refl e, subst (HandAt here) (sym e) none)
      open_by e (Reopens.goes state one is) = subst Both (sym is)
          (record { first = omega arith; last = omega arith; new = λ f. absurd (let less : 3 ≤ 1 = f refl in omega (arith, less)) }, λ f. absurd (let less : 3 ≤ 1 = f refl in omega (arith, less)))

      by : (s : Stand) (z : Bool) → u.life.stand ≡ s → u.under ≡ z → Both (behind s)
      by Stand.Gone z e f = old
      by (Stand.Opens o) true e f =
          let c = subst (StandBrings back a u) e (b.some f) in
          subst Both (sym (ap (λ z. life_back (x a.spot) acknowledged more passed number a.spot u.news back z u.life (Stand.Opens o)) c.is))
          (opened_by o e c (opening_gone openings a.stepped number u.life o c.done c.found (subst (StandsAt u.life) e before_stands) c.shows))
      by (Stand.Opens o) false e f = subst Both (sym (ap (λ z. life_back (x a.spot) acknowledged more passed number a.spot u.news back z u.life (Stand.Opens o)) (b.none f).1)) old
      by Stand.Open z e f = open_by e (reopens_or here era.account.hand)

  -- one that is gone stays so
  pub live_back : is_live (behind u.life.stand).stand ≡ true → is_live a.life.stand ≡ true
  live_back live = by u.life.stand refl live
    where
      by : (s : Stand) → u.life.stand ≡ s → is_live (behind s).stand ≡ true → is_live a.life.stand ≡ true
      by Stand.Gone e f = absurd (let gone' = sym (ap is_live e) ∙ f in cc)
      by (Stand.Opens o) e f = ap is_live (sym before_same.stand ∙ e)
      by Stand.Open e f = ap is_live (sym before_same.stand ∙ e)
