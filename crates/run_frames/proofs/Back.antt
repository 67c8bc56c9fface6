-- A slave and a frame that came back.
use Rattle.std.proofs.Common.{◌≡◌, ◌⊎◌, ℕ, ◌≤◌, ◌==◌, ◌&&◌, Bool, true, false, Option, Some, None, List, [], ◌∷◌, refl, sym, ap, ◌∙◌, subst, if◌then◌else◌, inl, inr, eq-eqb}
use Rattle.std.specs.Prelude.{◌||◌}
use Rattle.life_runs.specs.of_exchange_model.Exchange.{Speech}
use Rattle.life_runs.specs.of_link_model.Frames.{Ask, halves_after, halves_answered}
use Rattle.life_runs.specs.of_link_model.Link.{Halves}
use Rattle.life_runs.specs.of_link_model.Mails.{differs}
use Rattle.life_runs.specs.of_link_model.Master.{InState}
use Rattle.life_runs.specs.of_segment_model.Record.{News}
use Rattle.life_runs.specs.of_segment_model.Slaves.{Datagram, Found, grams}
use Rattle.life_runs.specs.of_state_model.Accounts.{Duty, Stage}
use Rattle.life_runs.specs.of_life_model.Lives.{Era, Life, Stand, Spot, Opening, life_back, era_back, opening_back, clears, opens, steps_on, is_shown, reopens, reopens_at, reopening, returns_to_init, opens_state}
use Rattle.life_runs.specs.of_life_model.Own.{own}
use Rattle.life_runs.specs.of_life_model.Repairs.{Way, way_of, half_way, opening_rest, whole_way, IsAt, IsDone, IsAnswered, GoesOn, awaits_at, awaited}
use Rattle.run_frames.specs.Brings.{AsksClear, HalfAsks, HalfBrings}

-- ---- an opening

-- an access that awaits a step, and didn't show the state, leaves the life
waits_again : {L : Type 0} (l c n s : L) (done : Bool) (found : Option Found) (state : ℕ) (two nine : Bool) → (two || nine) ≡ true → (done && is_shown (if two then 1 else state) found) ≡ false →
    (if two then (if done && is_shown 1 found then c else l) else if nine then (if done && is_shown state found then n else l) else s) ≡ l
waits_again l c n s done found state true nine e f = ap (λ (b : Bool). if b then c else l) f
waits_again l c n s done found state false true e f = ap (λ (b : Bool). if b then n else l) f
waits_again l c n s done found state false false e f = absurd (cc)

waits_first : {L : Type 0} (l n s : L) (done : Bool) (found : Option Found) (state : ℕ) (five : Bool) → five ≡ true → (done && is_shown state found) ≡ false → (if five then (if done && is_shown state found then n else l) else s) ≡ l
waits_first l n s done found state true e f = ap (λ (b : Bool). if b then n else l) f
waits_first l n s done found state false e f = absurd (cc)

waits_by : {M Q R : Type 0} (frame : ℕ) (l : Life M Q R) (again : Bool) (step state : ℕ) (own' : Bool) (done : Bool) (found : Option Found) →
    (let o : Opening = record { again = again; step = step; state = state; own = own' } in awaits_at again step ≡ true → (done && is_shown (awaited o) found) ≡ false → opening_back frame l o done found ≡ l)
waits_by frame l true step state own' done found e f =
    let o : Opening = record { again = true; step = step; state = state; own = own' } in
    waits_again l (clears frame l o) (opens frame l) (steps_on l o) done found state (step == 2) (step == 9) e f
waits_by frame l false step state own' done found e f =
    let o : Opening = record { again = false; step = step; state = state; own = own' } in
    waits_first l (opens frame l) (steps_on l o) done found state (step == 5) e f

waits_on : {M Q R : Type 0} (frame : ℕ) (l : Life M Q R) (o : Opening) (done : Bool) (found : Option Found) → awaits_at o.again o.step ≡ true → (done && is_shown (awaited o) found) ≡ false → opening_back frame l o done found ≡ l
waits_on frame l o done found e f = waits_by frame l o.again o.step o.state o.own done found e f

-- what the law of repairs says of openings
abbrev pub OpeningGoes : (M Q R : Type 0) → Type 0
OpeningGoes M Q R = (slaves pace frame : ℕ) (l : Life M Q R) (o : Opening) (done : Bool) (found : Option Found) → IsAt l o → IsDone o done found → GoesOn slaves pace (opening_rest slaves pace o.again o.step) (opening_back frame l o done found)

-- behind an access of an opening that came back the life goes on, or is the same, which it is only before a step that is awaited
pub data OpeningGone {M Q R : Type 0} (stepped : Bool) (frame : ℕ) (l : Life M Q R) (o : Opening) (done : Bool) (found : Option Found) : Type 0 where
  on : ((slaves pace : ℕ) → GoesOn slaves pace (opening_rest slaves pace o.again o.step) (opening_back frame l o done found)) → OpeningGone stepped frame l o done found
  same : opening_back frame l o done found ≡ l → awaits_at o.again o.step ≡ true → stepped ≡ false → OpeningGone stepped frame l o done found

not_true : (b : Bool) → (b ≡ true → ⊥) → b ≡ false
not_true true n = absurd (n refl)
not_true false n = refl

pub opening_gone : {M Q R : Type 0} → OpeningGoes M Q R → (stepped : Bool) (frame : ℕ) (l : Life M Q R) (o : Opening) (done : Bool) (found : Option Found) → IsAt l o →
    (awaits_at o.again o.step ≡ true → stepped ≡ true → (done && is_shown (awaited o) found) ≡ true) → OpeningGone stepped frame l o done found
opening_gone goes stepped frame l o done found at shows = by (awaits_at o.again o.step) (done && is_shown (awaited o) found) refl refl
  where
    by : (b c : Bool) → awaits_at o.again o.step ≡ b → (done && is_shown (awaited o) found) ≡ c → OpeningGone stepped frame l o done found
    by false c e f = OpeningGone.on (λ slaves pace. goes slaves pace frame l o done found at (λ is. absurd (cc)))
    by true true e f = OpeningGone.on (λ slaves pace. goes slaves pace frame l o done found at (λ is. f))
    by true false e f = OpeningGone.same (waits_on frame l o done found e f) e (not_true stepped (λ is. let no = shows e is in cc))

-- ---- an inward half

-- by its own datagram alone
one_half : {M : Type 0} (station : ℕ) (h : Halves M) (back : List (Datagram M)) (d : Datagram M) → own station back ≡ d ∷ [] → d.gram.station ≡ station → halves_after station h (grams (own station back)) ≡ halves_answered h d.gram.ask d.gram
one_half station h back d one is = ap (λ z. halves_after station h (grams z)) one ∙ ap (λ (z : Bool). if z then halves_answered h d.gram.ask d.gram else h) (eq-eqb d.gram.station station is)

-- where nothing is in doubt, nothing is behind it
clear_stays : {M : Type 0} (h : Halves M) (ask : Ask M) (d : Datagram M) → AsksClear ask → h.inn.state ≡ InState.Clear → (halves_answered h ask d.gram).inn.state ≡ InState.Clear
clear_stays h ask d (AsksClear.write m) e = e
clear_stays h ask d AsksClear.read e = refl
clear_stays h ask d AsksClear.other e = e

-- the acknowledge awaits a step
asked_by : {M : Type 0} (h : Halves M) (d : Datagram M) (b c : Bool) → (if b then h.inn else if c then h.inn else record h.inn { state = InState.Refetch }).state ≡ h.inn.state ⊎ ((b ≡ false) × (c ≡ false))
asked_by h d true c = inl refl
asked_by h d false true = inl refl
asked_by h d false false = inr (refl, refl)

-- what the law of repairs says of inward halves
abbrev pub HalfGoes : (M Q R : Type 0) → Type 0
HalfGoes M Q R = (x : Speech M Q R) (acknowledged : Q → Bool) (more : M → Bool) (passed : Q → Bool) (slaves pace frame : ℕ) (spot : Spot) (news : List (News M)) (back : List (Datagram M)) (came : Option (Bool × Option Found)) (l : Life M Q R) (d : Datagram M) (w : Way) →
    own spot.station back ≡ d ∷ [] → IsAnswered spot.station l.era.side.halves.inn.state l.era.side.halves.inn.bit d → half_way slaves pace l.era.side.halves.inn.state ≡ Some w →
    (life_back x acknowledged more passed frame spot news back came l Stand.Open).stand ≡ Stand.Open → GoesOn slaves pace w.rest (life_back x acknowledged more passed frame spot news back came l Stand.Open)

-- behind a frame that came back the half of a slave that stays open goes on, or is in the same state, which it is only with nothing in doubt or before
-- a step that is awaited
pub data HalfGone {M Q R : Type 0} (stepped : Bool) (l m : Life M Q R) : Type 0 where
  on : (l.era.side.halves.inn.state ≡ InState.Clear → ⊥) → ((slaves pace : ℕ) (w : Way) → half_way slaves pace l.era.side.halves.inn.state ≡ Some w → whole_way slaves pace (way_of slaves pace m) ≤ w.rest) → HalfGone stepped l m
  same : m.era.side.halves.inn.state ≡ l.era.side.halves.inn.state → (l.era.side.halves.inn.state ≡ InState.Clear) ⊎ ((l.era.side.halves.inn.state ≡ InState.Asked) × (stepped ≡ false)) → HalfGone stepped l m

-- the life behind it is the epoch behind it
pub same_era : {M Q R : Type 0} (l : Life M Q R) (hand : Option Duty) → (reopens l hand).era ≡ l.era
same_era l None = refl
same_era l (Some duty) = at duty.target duty.stage
  where
    at : (target : ℕ) (stage : Stage) → (reopens_at l target stage).era ≡ l.era
    at target Stage.Drains = refl
    at target (Stage.Goes phase) = by (returns_to_init target)
      where
        by : (b : Bool) → (if b then record l { stand = reopening (opens_state target) true } else l).era ≡ l.era
        by true = refl
        by false = refl

module _ {M Q R : Type 0} (x : Speech M Q R) (acknowledged : Q → Bool) (more : M → Bool) (passed : Q → Bool) (frame : ℕ) (spot : Spot) (news : List (News M)) (back : List (Datagram M)) (came : Option (Bool × Option Found)) (l : Life M Q R) where
  abbrev era : Era M Q R
  era = era_back x acknowledged more passed spot.station frame news back l.era

  abbrev opened : Life M Q R
  opened = life_back x acknowledged more passed frame spot news back came l Stand.Open

  -- its half is that of the epoch
  half_is : opened.era.side.halves ≡ halves_after spot.station l.era.side.halves (grams (own spot.station back))
  half_is = ap (λ z. z.side.halves) (same_era (record l { era = era }) era.account.hand)

  pub half_gone : HalfGoes M Q R → (stepped : Bool) → HalfBrings spot.station stepped l.era.side.halves.inn.state l.era.side.halves.inn.bit back → opened.stand ≡ Stand.Open → HalfGone stepped l opened
  half_gone goes stepped b stays = by l.era.side.halves.inn.state refl b.asks
    where
      d : Datagram M
      d = b.datagram

      h : Halves M
      h = l.era.side.halves

      now : opened.era.side.halves ≡ halves_answered h d.gram.ask d.gram
      now = half_is ∙ one_half spot.station h back d b.one b.station_is

      answered : (s : InState) → h.inn.state ≡ s → (s ≡ InState.Clear → ⊥) → IsAnswered spot.station s h.inn.bit d → HalfGone stepped l opened
      answered s e not_clear a = HalfGone.on (λ is. not_clear (sym e ∙ is)) (λ slaves pace w is.
          (goes x acknowledged more passed slaves pace frame spot news back came l d w b.one (subst (λ z. IsAnswered spot.station z h.inn.bit d) (sym e) a) is stays).whole)

      by : (s : InState) → h.inn.state ≡ s → HalfAsks stepped s h.inn.bit d → HalfGone stepped l opened
      by InState.Clear e asks = HalfGone.same (ap (λ z. z.inn.state) now ∙ clear_stays h d.gram.ask d asks e ∙ sym e) (inl e)
      by InState.Doubt e asks = answered InState.Doubt e (λ is. absurd (cc)) (record { station_is = b.station_is; ask = asks.0; met = λ is. asks.1; acknowledged = λ is. absurd (cc) })
      by InState.Refetch e asks = answered InState.Refetch e (λ is. absurd (cc)) (record { station_is = b.station_is; ask = asks; met = λ is. absurd (cc); acknowledged = λ is. absurd (cc) })
      by InState.Asked e asks = elim (asked_by h d (d.gram.counter == 0) (differs d.gram.acknowledge h.inn.bit)) [
        | inl kept ↦ waits stepped refl (ap (λ z. z.inn.state) now ∙ ap (λ z. (halves_answered h z d.gram).inn.state) asks.0 ∙ kept)
        | inr did ↦ answered InState.Asked e (λ is. absurd (cc)) (record { station_is = b.station_is; ask = asks.0; met = λ is. absurd (cc); acknowledged = λ is. did })
      ]
        where
          waits : (b' : Bool) → stepped ≡ b' → opened.era.side.halves.inn.state ≡ h.inn.state → HalfGone stepped l opened
          waits false f kept = HalfGone.same kept (inr (e, f))
          waits true f kept = answered InState.Asked e (λ is. absurd (cc)) (record { station_is = b.station_is; ask = asks.0; met = λ is. absurd (cc); acknowledged = λ is. asks.1 f })
