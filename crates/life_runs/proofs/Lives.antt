-- The record's counters go on with a slave's own datagrams, and begin anew with its mailboxes.
use Rattle.std.proofs.Common.{◌≡◌, ℕ, suc, ◌==◌, List, [], ◌∷◌, Bool, true, false, Option, Some, None, refl, sym, ap, ◌∙◌, subst, arith, eq-eqb, eqb-true}
use Rattle.std.specs.Prelude.{◌&&◌, nat_lt, if◌then◌else◌}
use Rattle.std.proofs.lemmas.Bool.Decides.{nat_tests}
use Rattle.life_runs.specs.Lives.{StandsKept, LifeKept, is_left, came_so, lost_so}
use Rattle.master_hand.specs.of_exchange_model.Exchange.{Speech}
use Rattle.master_hand.specs.of_exchange_model.Rows.{Row}
use Rattle.master_tour.specs.of_link_model.Counters.{next_counter}
use Rattle.master_tour.specs.of_life_model.Lives.{Life, Opening, Spot, Stand, clears, era_back, gives_up, is_shown, last_step, life_back, life_lost, life_next, opening_back, opens, opens_state, reopening, reopens, reopens_at, returns_to_init, shows_clear, steps_on}
use Rattle.master_tour.specs.of_life_model.Own
use Rattle.master_tour.specs.of_link_mails.Body.{Body}
use Rattle.master_hand.specs.of_segment_model.Record.{Kept, News, nothing_kept, kept_after, told_behind, heard_behind, last_told, last_heard}
use Rattle.master_hand.specs.of_segment_model.Seats.{Side, side_back, side_lost}
use Rattle.master_hand.specs.of_segment_model.Slaves.{Datagram, Access, Found, grams}
use Rattle.master_hand.specs.of_state_model.Accounts
use Rattle.master_hand.specs.of_state_model.Accounts.{Pick, duty_access}
use Rattle.master_tour.specs.of_master_side.Carried.{one}
use Rattle.master_tour.specs.of_master_side.Passing.{IsKept}
use Rattle.master_tour.specs.of_master_side.declared.carried.Carried.{Carried}
use Rattle.master_tour.specs.of_master_duty.Reply.{Reply}
use Rattle.master_tour.specs.Passing.{StandKept}
use Rattle.master_tour.specs.Under.{Grams, mine, Under}
use Rattle.master_tour.specs.declared.stop.Stand as Stop
use Rattle.master_tour.proofs.Backs.{own_back, own_lost}
use Rattle.master_tour.proofs.Unders.{SameAim, back_as, lost_as}
use Rattle.master_tour.specs.of_master_side.Counts.{kept_on}
use Rattle.master_tour.proofs.of_master_side.Kepts.{new_kept, next_kept, back_kept, lost_kept}

-- the counters count a slave's own datagrams alone
told_mine : (station last : ℕ) (ds : Grams) → told_behind station last (grams ds) ≡ told_behind station last (grams (mine station ds))
told_mine station last [] = refl
told_mine station last (d ∷ ds) = go (d.gram.station == station) refl (λ k. told_mine station k ds)
  where
    mined : Bool → ℕ
    mined z = told_behind station last (grams (if z then d ∷ mine station ds else mine station ds))

    next : Bool → ℕ
    next z = if z then last_told last d.gram.ask else last

    go : (z : Bool) → (d.gram.station == station) ≡ z → ((k : ℕ) → told_behind station k (grams ds) ≡ told_behind station k (grams (mine station ds))) →
        told_behind station last (grams (d ∷ ds)) ≡ told_behind station last (grams (mine station (d ∷ ds)))
    go true e ih = ih (next (d.gram.station == station)) ∙ sym (ap mined e)
    go false e ih = ap (λ (z : Bool). told_behind station (next z) (grams ds)) e ∙ ih last ∙ sym (ap mined e)

heard_mine : (station last : ℕ) (ds : Grams) → heard_behind station last ds ≡ heard_behind station last (mine station ds)
heard_mine station last [] = refl
heard_mine station last (d ∷ ds) = go (d.gram.station == station) refl (λ k. heard_mine station k ds)
  where
    mined : Bool → ℕ
    mined z = heard_behind station last (if z then d ∷ mine station ds else mine station ds)

    next : Bool → ℕ
    next z = if z then last_heard last d.gram.ask d.gram else last

    go : (z : Bool) → (d.gram.station == station) ≡ z → ((k : ℕ) → heard_behind station k ds ≡ heard_behind station k (mine station ds)) →
        heard_behind station last (d ∷ ds) ≡ heard_behind station last (mine station (d ∷ ds))
    go true e ih = ih (next (d.gram.station == station)) ∙ sym (ap mined e)
    go false e ih = ap (λ (z : Bool). heard_behind station (next z) ds) e ∙ ih last ∙ sym (ap mined e)

came_as : (station : ℕ) (kept : Kept) (ds es : Grams) → mine station ds ≡ es → mine station es ≡ es → kept_after station kept (came_so ds) ≡ kept_after station kept (came_so es)
came_as station kept ds es e f = λ i. record { told = (told_mine station kept.told ds ∙ ap (λ z. told_behind station kept.told (grams z)) e) i; heard = (heard_mine station kept.heard ds ∙ ap (heard_behind station kept.heard) e) i }

lost_same : (station : ℕ) (kept : Kept) (ds es : Grams) → mine station ds ≡ es → kept_after station kept (lost_so ds) ≡ kept_after station kept (lost_so es)
lost_same station kept ds es e = λ i. record { told = (told_mine station kept.told ds ∙ ap (λ z. told_behind station kept.told (grams z)) e) i; heard = kept.heard }

and_true : (b : Bool) → b && true ≡ b
and_true true = refl
and_true false = refl

-- the last access of an opening comes behind Init
last_left : (o : Opening) → (o.step == last_step o) ≡ true → is_left o ≡ false
last_left o e = go o.again (eqb-true o.step (last_step o) e)
  where
    go : (z : Bool) → o.step ≡ (if z then 9 else 5) → (z && nat_lt o.step 3) ≡ false
    go true s = ap (λ n. nat_lt n 3) s
    go false s = refl

-- and so does the one behind each other that doesn't show it
next_left : (o : Opening) → shows_clear o ≡ false → is_left (record o { step = suc o.step }) ≡ false → is_left o ≡ false
next_left o n e = go o.again n e
  where
    go : (z : Bool) → (z && o.step == 2) ≡ false → (z && nat_lt (suc o.step) 3) ≡ false → (z && nat_lt o.step 3) ≡ false
    go true n e = grind (arith, nat_tests, n, e)
    go false n e = refl

-- a frame of its own datagram alone
one_mine : (station : ℕ) (b : Datagram Body) → b.gram.station ≡ station → mine station (one b) ≡ one b
one_mine station b e = ap (λ (z : Bool). if z then one b else []) (eq-eqb b.gram.station station e)

module _ {Q : Type 0} where
  same_fresh : (kept : Kept) (d : Side Body Q Reply) (now : Option (Row Body Q Reply)) → IsKept kept d → IsKept kept (record { halves = d.halves; fresh = d.fresh && true; past = d.past; now = now })
  same_fresh kept d now k = record { told = k.told ∙ ap (λ (z : Bool). if z then next_counter kept.told else kept.told) (sym (and_true d.fresh)); held = k.held; idle = λ s. and_true d.fresh ∙ k.idle s; heard = k.heard }

  -- BEHIND A FRAME with at most its own datagram the side of an open slave keeps the counters
  pub open_back : (x : Speech Body Q Reply) (frame station at : ℕ) (under : Bool) (carried : Carried) (due : Option Access) (kept : Kept) (back : Grams) (d : Side Body Q Reply) → SameAim station back → Under station at under carried d.halves due back → IsKept kept d →
      IsKept (kept_after station kept (came_so back)) (side_back x frame station (Own.own station back) d)
  open_back x frame station at under carried due kept back d aim u k =
      own_back x (λ e a. IsKept (kept_after station kept (came_so back)) e) frame station back d (Accounts.new_account) aim (go u)
    where
      go : Under station at under carried d.halves due back → IsKept (kept_after station kept (came_so back)) (side_back x frame station back d)
      go (Under.none n e) = subst (λ z. IsKept z (side_back x frame station back d)) (sym (came_as station kept back [] e refl))
          (subst (λ (z : Side Body Q Reply). IsKept kept z) (sym (back_as x frame station back [] d e)) (same_fresh kept d _ k))
      go (Under.has b v i e m) =
          let own = one_mine station b m.station_is in
          subst (λ z. IsKept z (side_back x frame station back d)) (sym (came_as station kept back (one b) e own))
          (subst (λ (z : Side Body Q Reply). IsKept (kept_after station kept (came_so (one b))) z) (sym (back_as x frame station back (one b) d (e ∙ sym own))) (back_kept station kept d b x frame carried due k m))

  pub open_lost : (x : Speech Body Q Reply) (station at : ℕ) (under : Bool) (carried : Carried) (due : Option Access) (kept : Kept) (sent : Grams) (d : Side Body Q Reply) → SameAim station sent → Under station at under carried d.halves due sent → IsKept kept d →
      IsKept (kept_after station kept (lost_so sent)) (side_lost station (Own.own station sent) d)
  open_lost x station at under carried due kept sent d aim u k =
      own_lost x (λ e. IsKept (kept_after station kept (lost_so sent)) e) station sent d aim (go u)
    where
      go : Under station at under carried d.halves due sent → IsKept (kept_after station kept (lost_so sent)) (side_lost station sent d)
      go (Under.none n e) = subst (λ z. IsKept z (side_lost station sent d)) (sym (lost_same station kept sent [] e))
          (subst (λ (z : Side Body Q Reply). IsKept kept z) (sym (lost_as x station sent [] d e)) (same_fresh kept d _ k))
      go (Under.has b v i e m) =
          subst (λ z. IsKept z (side_lost station sent d)) (sym (lost_same station kept sent (one b) e))
          (subst (λ (z : Side Body Q Reply). IsKept (kept_after station kept (lost_so (one b))) z) (sym (lost_as x station sent (one b) d (e ∙ sym (one_mine station b m.station_is)))) (lost_kept station kept d b carried due k m))

  -- a state service that drained begins a reopening, or not
  reopens_kept : (kept : Kept) (l : Life Body Q Reply) (hand : Option Accounts.Duty) → l.stand ≡ Stand.Open → IsKept kept l.era.side → LifeKept kept (reopens l hand)
  reopens_kept kept l None o k = subst (λ (z : Stand). StandsKept z kept l.era.side) (sym o) k
  reopens_kept kept l (Some duty) o k = go duty.stage
    where
      by : (b : Bool) → LifeKept kept (if b then record l { stand = reopening (opens_state duty.target) true } else l)
      by true = λ e. absurd (cc)
      by false = subst (λ (z : Stand). StandsKept z kept l.era.side) (sym o) k

      go : (s : Accounts.Stage) → LifeKept kept (reopens_at l duty.target s)
      go Accounts.Stage.Drains = subst (λ (z : Stand). StandsKept z kept l.era.side) (sym o) k
      go (Accounts.Stage.Goes phase) = by (returns_to_init duty.target)

  -- AN OPENING'S ACCESS CAME BACK
  opening_kept : (frame : ℕ) (kept : Kept) (l : Life Body Q Reply) (o : Opening) (done : Bool) (found : Option Found) → l.stand ≡ Stand.Opens o → (is_left o ≡ false → IsKept nothing_kept l.era.side) → LifeKept nothing_kept (opening_back frame l o done found)
  opening_kept frame kept l o done found s k = first (shows_clear o) refl
    where
      same : LifeKept nothing_kept l
      same = subst (λ (z : Stand). StandsKept z nothing_kept l.era.side) (sym s) k

      cleared : (b : Bool) → LifeKept nothing_kept (if b then clears frame l o else l)
      cleared true = λ e. new_kept
      cleared false = same

      opened : (b : Bool) → (o.step == last_step o) ≡ true → LifeKept nothing_kept (if b then opens frame l else l)
      opened true e = k (last_left o e)
      opened false e = same

      second : (b : Bool) → (o.step == last_step o) ≡ b → shows_clear o ≡ false → LifeKept nothing_kept (if b then (if done && is_shown o.state found then opens frame l else l) else steps_on l o)
      second true e n = opened (done && is_shown o.state found) e
      second false e n = λ f. k (next_left o n f)

      first : (b : Bool) → shows_clear o ≡ b → LifeKept nothing_kept (if b then (if done && is_shown 1 found then clears frame l o else l) else if o.step == last_step o then (if done && is_shown o.state found then opens frame l else l) else steps_on l o)
      first true e = cleared (done && is_shown 1 found)
      first false e = second (o.step == last_step o) refl e

  -- THE LIFE BEHIND A FRAME
  pub back_life : (x : Speech Body Q Reply) (acknowledged : Q → Bool) (more : Body → Bool) (passed : Q → Bool) (frame at : ℕ) (under : Bool) (carried : Carried) (spot : Spot) (ns : List (News Body)) (back : Grams) (came : Option (Bool × Option Found)) (kept : Kept) (l : Life Body Q Reply) →
      SameAim spot.station back → (l.stand ≡ Stand.Open → Under spot.station at under carried l.era.side.halves (duty_access l.era.account.hand) back) → LifeKept kept l →
      LifeKept (kept_on l.stand spot.station kept (came_so back)) (life_back x acknowledged more passed frame spot ns back came l l.stand)
  back_life x acknowledged more passed frame at under carried spot ns back came kept l aim u k = go l.stand refl came
    where
      go : (z : Stand) → l.stand ≡ z → (got : Option (Bool × Option Found)) → LifeKept (kept_on z spot.station kept (came_so back)) (life_back x acknowledged more passed frame spot ns back got l z)
      go (Stand.Opens o) e None = subst (λ (z : Stand). StandsKept z nothing_kept l.era.side) (sym e) (subst (λ (z : Stand). StandsKept z kept l.era.side) e k)
      go (Stand.Opens o) e (Some got) = opening_kept frame kept l o got.0 got.1 e (subst (λ (z : Stand). StandsKept z kept l.era.side) e k)
      go Stand.Open e None = let now = era_back x acknowledged more passed spot.station frame ns back l.era in
          reopens_kept (kept_after spot.station kept (came_so back)) (record l { era = now }) now.account.hand e (open_back x frame spot.station at under carried (duty_access l.era.account.hand) kept back l.era.side aim (u e) (subst (λ (z : Stand). StandsKept z kept l.era.side) e k))
      go Stand.Open e (Some got) = let now = era_back x acknowledged more passed spot.station frame ns back l.era in
          reopens_kept (kept_after spot.station kept (came_so back)) (record l { era = now }) now.account.hand e (open_back x frame spot.station at under carried (duty_access l.era.account.hand) kept back l.era.side aim (u e) (subst (λ (z : Stand). StandsKept z kept l.era.side) e k))
      go Stand.Gone e None = subst (λ (z : Stand). StandsKept z nothing_kept l.era.side) (sym e) tt
      go Stand.Gone e (Some got) = subst (λ (z : Stand). StandsKept z nothing_kept l.era.side) (sym e) tt

  pub lost_life : (x : Speech Body Q Reply) (acknowledged : Q → Bool) (more : Body → Bool) (passed : Q → Bool) (at : ℕ) (under : Bool) (carried : Carried) (spot : Spot) (ns : List (News Body)) (sent : Grams) (kept : Kept) (l : Life Body Q Reply) →
      SameAim spot.station sent → (l.stand ≡ Stand.Open → Under spot.station at under carried l.era.side.halves (duty_access l.era.account.hand) sent) → LifeKept kept l →
      LifeKept (kept_on l.stand spot.station kept (lost_so sent)) (life_lost x acknowledged more passed spot ns sent l l.stand)
  lost_life x acknowledged more passed at under carried spot ns sent kept l aim u k = go l.stand refl
    where
      go : (z : Stand) → l.stand ≡ z → LifeKept (kept_on z spot.station kept (lost_so sent)) (life_lost x acknowledged more passed spot ns sent l z)
      go (Stand.Opens o) e = subst (λ (z : Stand). StandsKept z nothing_kept l.era.side) (sym e) (subst (λ (z : Stand). StandsKept z kept l.era.side) e k)
      go Stand.Open e = subst (λ (z : Stand). StandsKept z (kept_after spot.station kept (lost_so sent)) (side_lost spot.station (Own.own spot.station sent) l.era.side)) (sym e)
          (open_lost x spot.station at under carried (duty_access l.era.account.hand) kept sent l.era.side aim (u e) (subst (λ (z : Stand). StandsKept z kept l.era.side) e k))
      go Stand.Gone e = subst (λ (z : Stand). StandsKept z nothing_kept l.era.side) (sym e) tt

  -- and before it
  pub next_life : (x : Speech Body Q Reply) (acknowledged : Q → Bool) (more : Body → Bool) (passed : Q → Bool) (made : ℕ) (kept : Kept) (l : Life Body Q Reply) (pick : Pick Q) → LifeKept kept l → LifeKept kept (life_next x acknowledged more passed made l l.stand pick)
  next_life x acknowledged more passed made kept l pick k = go l.stand refl
    where
      go : (z : Stand) → l.stand ≡ z → LifeKept kept (life_next x acknowledged more passed made l z pick)
      go (Stand.Opens o) e = k
      go Stand.Open e = subst (λ (z : Stand). StandsKept z kept (life_next x acknowledged more passed made l Stand.Open pick).era.side) (sym e)
          (next_kept x made kept l.era.side _ (subst (λ (z : Stand). StandsKept z kept l.era.side) e k))
      go Stand.Gone e = k

  -- A GIVE-UP
  pub given_life : (recover frame : ℕ) (spot : Spot) (kept : Kept) (l : Life Body Q Reply) → LifeKept kept (gives_up recover spot frame l)
  given_life recover frame spot kept l = go (nat_lt _ recover)
    where
      go : (b : Bool) → StandsKept (if b then reopening spot.start false else Stand.Gone) kept l.era.side
      go true = λ e. absurd (cc)
      go false = tt

  -- AS THE MASTER STANDS TO IT
  pub stands_kept : (stand : Stop.Stand) (kept : Kept) (l : Life Body Q Reply) → (stand ≡ Stop.Stand.Open → l.stand ≡ Stand.Open) → LifeKept kept l → StandKept stand kept l
  stands_kept (Stop.Stand.Opening up) kept l o k = tt
  stands_kept Stop.Stand.Open kept l o k = subst (λ (z : Stand). StandsKept z kept l.era.side) (o refl) k
  stands_kept Stop.Stand.Gone kept l o k = tt
