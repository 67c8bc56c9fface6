-- A FACT OF AN OPEN SLAVE by the record's counters, all along a slave's life: whatever its frames are.
use Rattle.std.proofs.Common.{◌≡◌, ℕ, suc, ◌==◌, Bool, true, false, Option, Some, None, refl, sym, ap, subst, arith, eqb-true, if◌then◌else◌}
use Rattle.std.specs.Prelude.{◌&&◌, length, nat_lt, List, ⊤}
use Rattle.std.proofs.lemmas.Bool.Decides.{nat_tests}
use Rattle.idle_slaves.specs.of_life_runs.Lives.{is_left}
use Rattle.idle_slaves.specs.of_exchange_model.Exchange.{Speech}
use Rattle.idle_slaves.specs.of_frame_view.Shares.{given_where}
use Rattle.idle_slaves.specs.of_life_model.Lives.{Era, Life, Opening, Spot, Stand, clears, era_back, era_lost, era_next, is_shown, last_step, life_back, life_lost, life_next, new_side, opening_back, opens, opens_state, reopening, reopens, reopens_at, returns_to_init, shows_clear, steps_on}
use Rattle.idle_slaves.specs.of_link_mails.Body.{Body}
use Rattle.served_rings.specs.of_master_duty.Reply.{Reply}
use Rattle.served_rings.specs.of_master_hand.Spoken.{Asked}
use Rattle.served_rings.specs.of_master_side.Counts.{kept_on}
use Rattle.idle_slaves.specs.of_segment_model.Ends.{Passing}
use Rattle.idle_slaves.specs.of_segment_model.Record.{Frame, Kept, News, kept_after, nothing_kept}
use Rattle.idle_slaves.specs.of_segment_model.Seats.{Side}
use Rattle.idle_slaves.specs.of_segment_model.Slaves.{Datagram, Found}
use Rattle.idle_slaves.specs.of_state_model.Accounts.{Duty, Pick, Stage}

-- the last access of an opening comes behind Init, and so does the one behind each other that doesn't show it
last_left : (o : Opening) → (o.step == last_step o) ≡ true → is_left o ≡ false
last_left o e = go o.again (eqb-true o.step (last_step o) e)
  where
    go : (z : Bool) → o.step ≡ (if z then 9 else 5) → (z && nat_lt o.step 3) ≡ false
    go true s = ap (λ n. nat_lt n 3) s
    go false s = refl

next_left : (o : Opening) → shows_clear o ≡ false → is_left (record o { step = suc o.step }) ≡ false → is_left o ≡ false
next_left o n e = go o.again n e
  where
    go : (z : Bool) → (z && o.step == 2) ≡ false → (z && nat_lt (suc o.step) 3) ≡ false → (z && nat_lt o.step 3) ≡ false
    go true n e = grind (arith, nat_tests, n, e)
    go false n e = refl

module _ (P : Kept → Option Passing → Side Body Asked Reply → Type 0) (new : P nothing_kept None new_side) where
  -- by how the master stands to it: that of an open slave; that of a new one where it was seen in Init; and of the epoch before nothing more counts
  abbrev pub At : Stand → Kept → Era Body Asked Reply → Type 0
  At (Stand.Opens o) kept e = is_left o ≡ false → P nothing_kept e.passing e.side
  At Stand.Open kept e = P kept e.passing e.side
  At Stand.Gone kept e = ⊤

  -- ---- an opening's access came back
  opening_at : (frame : ℕ) (l : Life Body Asked Reply) (o : Opening) (done : Bool) (found : Option Found) → l.stand ≡ Stand.Opens o → (is_left o ≡ false → P nothing_kept l.era.passing l.era.side) → (let n = opening_back frame l o done found in At n.stand nothing_kept n.era)
  opening_at frame l o done found e k = go (shows_clear o) (done && is_shown 1 found) (o.step == last_step o) (done && is_shown o.state found) refl refl
    where
      same : At l.stand nothing_kept l.era
      same = subst (λ s. At s nothing_kept l.era) (sym e) k

      go : (shows seen last there : Bool) → shows_clear o ≡ shows → (o.step == last_step o) ≡ last →
          (let n = (if shows then (if seen then clears frame l o else l) else if last then (if there then opens frame l else l) else steps_on l o) in At n.stand nothing_kept n.era)
      go true true last there a b = λ z. new
      go true false last there a b = same
      go false seen true true a b = k (last_left o b)
      go false seen true false a b = same
      go false seen false there a b = λ z. k (next_left o a z)

  -- a state service that drained begins a reopening, or not
  reopens_at_stand : (kept : Kept) (l : Life Body Asked Reply) (hand : Option Duty) → At l.stand kept l.era → (let n = reopens l hand in At n.stand kept n.era)
  reopens_at_stand kept l None k = k
  reopens_at_stand kept l (Some duty) k = go duty.stage
    where
      by : (b : Bool) → (let n = (if b then record l { stand = reopening (opens_state duty.target) true } else l) in At n.stand kept n.era)
      by true = λ e. absurd (cc)
      by false = k

      go : (s : Stage) → (let n = reopens_at l duty.target s in At n.stand kept n.era)
      go Stage.Drains = k
      go (Stage.Goes phase) = by (returns_to_init duty.target)

  module _ (x : Speech Body Asked Reply) (acknowledged : Asked → Bool) (more : Body → Bool) (passed : Asked → Bool) (frame : ℕ) (kept : Kept) (l : Life Body Asked Reply) where
    -- BEFORE A FRAME
    pub next_at : (pick : Pick Asked) → (P kept l.era.passing l.era.side → (let e = era_next x acknowledged more passed frame l.era pick in P kept e.passing e.side)) → At l.stand kept l.era →
        (let n = life_next x acknowledged more passed frame l l.stand pick in At n.stand kept n.era)
    next_at pick step k = go l.stand refl
      where
        go : (s : Stand) → l.stand ≡ s → (let n = life_next x acknowledged more passed frame l s pick in At n.stand kept n.era)
        go (Stand.Opens o) e = k
        go Stand.Gone e = k
        go Stand.Open e = subst (λ s. At s kept (era_next x acknowledged more passed frame l.era pick)) (sym e) (step (subst (λ s. At s kept l.era) e k))

    -- BEHIND ONE THAT CAME BACK
    pub back_at : (spot : Spot) (ns : List (News Body)) (ds : List (Datagram Body)) (f : Frame Body) (came : Option (Bool × Option Found)) →
        (l.stand ≡ Stand.Open → P kept l.era.passing l.era.side → (let e = era_back x acknowledged more passed spot.station frame ns ds l.era in P (kept_after spot.station kept f) e.passing e.side)) → At l.stand kept l.era →
        (let n = life_back x acknowledged more passed frame spot ns ds came l l.stand in At n.stand (kept_on l.stand spot.station kept f) n.era)
    back_at spot ns ds f came step k = go l.stand refl came
      where
        open_at : l.stand ≡ Stand.Open → (let e = era_back x acknowledged more passed spot.station frame ns ds l.era in let n = reopens (record l { era = e }) e.account.hand in At n.stand (kept_after spot.station kept f) n.era)
        open_at e =
            let era = era_back x acknowledged more passed spot.station frame ns ds l.era in
            reopens_at_stand (kept_after spot.station kept f) (record l { era = era }) era.account.hand
            (subst (λ s. At s (kept_after spot.station kept f) era) (sym e) (step e (subst (λ s. At s kept l.era) e k)))

        go : (s : Stand) → l.stand ≡ s → (got : Option (Bool × Option Found)) → (let n = life_back x acknowledged more passed frame spot ns ds got l s in At n.stand (kept_on s spot.station kept f) n.era)
        go (Stand.Opens o) e None = subst (λ s. At s nothing_kept l.era) (sym e) (subst (λ s. At s kept l.era) e k)
        go (Stand.Opens o) e (Some got) = opening_at frame l o got.0 got.1 e (subst (λ s. At s kept l.era) e k)
        go Stand.Gone e None = subst (λ s. At s nothing_kept l.era) (sym e) tt
        go Stand.Gone e (Some got) = subst (λ s. At s nothing_kept l.era) (sym e) tt
        go Stand.Open e None = open_at e
        go Stand.Open e (Some got) = open_at e

    -- BEHIND A LOST ONE, by which the slave is given up or isn't
    pub lost_at : (spot : Spot) (ns : List (News Body)) (ds : List (Datagram Body)) (f : Frame Body) (gives : Bool) (recover : ℕ) →
        (l.stand ≡ Stand.Open → P kept l.era.passing l.era.side → (let e = era_lost x acknowledged more passed spot.station ns ds l.era in P (kept_after spot.station kept f) e.passing e.side)) → At l.stand kept l.era →
        (let n = given_where gives recover spot frame (life_lost x acknowledged more passed spot ns ds l l.stand) in At n.stand (kept_on l.stand spot.station kept f) n.era)
    lost_at spot ns ds f gives recover step k = up gives
      where
        go : (s : Stand) → l.stand ≡ s → (let n = life_lost x acknowledged more passed spot ns ds l s in At n.stand (kept_on s spot.station kept f) n.era)
        go (Stand.Opens o) e = subst (λ s. At s nothing_kept l.era) (sym e) (subst (λ s. At s kept l.era) e k)
        go Stand.Gone e = subst (λ s. At s nothing_kept l.era) (sym e) tt
        go Stand.Open e = subst (λ s. At s (kept_after spot.station kept f) (era_lost x acknowledged more passed spot.station ns ds l.era)) (sym e) (step e (subst (λ s. At s kept l.era) e k))

        given : (b : Bool) → At (if b then reopening spot.start false else Stand.Gone) (kept_on l.stand spot.station kept f) (life_lost x acknowledged more passed spot ns ds l l.stand).era
        given true = λ e. absurd (cc)
        given false = tt

        up : (b : Bool) → (let n = given_where b recover spot frame (life_lost x acknowledged more passed spot ns ds l l.stand) in At n.stand (kept_on l.stand spot.station kept f) n.era)
        up false = go l.stand refl
        up true = given (nat_lt (length (life_lost x acknowledged more passed spot ns ds l l.stand).gave) recover)
