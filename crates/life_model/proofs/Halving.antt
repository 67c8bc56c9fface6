-- The inward half finds its way back.
use Rattle.std.proofs.Common.{◌≡◌, ◌⊎◌, ℕ, ◌+◌, ◌*◌, ◌≤◌, ◌==◌, Bool, true, false, Option, Some, None, List, [], ◌∷◌, refl, sym, ap, ◌∙◌, subst, arith, if◌then◌else◌, inl, inr, eq-eqb}
use Rattle.state_model.specs.of_exchange_model.Exchange.{Speech}
use Rattle.state_model.specs.of_link_model.Mails.{differs}
use Rattle.state_model.specs.of_link_model.Master.{InState, InHalf}
use Rattle.state_model.specs.of_link_model.Link.{Halves}
use Rattle.state_model.specs.of_link_model.Frames.{Ask, Gram, halves_after, halves_answered, halves_without, halves_lost}
use Rattle.state_model.specs.of_segment_model.Slaves.{Datagram, Found, grams}
use Rattle.state_model.specs.of_segment_model.Record.{News}
use Rattle.life_model.specs.Own.{own}
use Rattle.life_model.specs.Lives.{Stand, Life, Spot, life_back, life_lost, era_back, reopens, reopens_at, reopening, opens_state, returns_to_init}
use Rattle.state_model.specs.Accounts.{Duty, Stage}
use Rattle.life_model.specs.Tally.{broken}
use Rattle.life_model.specs.Repairs.{Way, way_of, stand_way, half_way, whole_way, StandsAt, IsAnswered, GoesOn}

abbrev rest_of : Option Way → ℕ
rest_of None = 0
rest_of (Some v) = v.rest

-- the answer of its own datagram
refetches : (h : InHalf) (b c : Bool) → b ≡ false → c ≡ false → (if b then h else if c then h else record h { state = InState.Refetch }).state ≡ InState.Refetch
refetches h true c e f = absurd (cc)
refetches h false true e f = absurd (cc)
refetches h false false e f = refl

half_answered : {M : Type 0} (slaves pace station : ℕ) (h : Halves M) (state : InState) (d : Datagram M) (w : Way) → h.inn.state ≡ state → IsAnswered station state h.inn.bit d → half_way slaves pace state ≡ Some w →
    whole_way slaves pace (half_way slaves pace (halves_answered h d.gram.ask d.gram).inn.state) ≤ w.rest
half_answered {M} slaves pace station h InState.Clear d w is a e = absurd (cc)
half_answered {M} slaves pace station h InState.Doubt d w is a e =
    let now : (halves_answered h d.gram.ask d.gram).inn.state ≡ InState.Asked = ap (λ z. (halves_answered h z d.gram).inn.state) a.ask ∙ ap (λ (z : Bool). (if z then h.inn else record h.inn { state = InState.Asked }).state) (a.met refl) in
    let rest : w.rest ≡ 2 * slaves + pace = ap (λ z. rest_of z) (sym e) in
    subst (λ z. whole_way slaves pace (half_way slaves pace z) ≤ w.rest) (sym now) (omega (arith, rest))
half_answered {M} slaves pace station h InState.Asked d w is a e =
    let go : (b c : Bool) → b ≡ false → c ≡ false → (if b then h.inn else if c then h.inn else record h.inn { state = InState.Refetch }).state ≡ InState.Refetch = refetches h.inn in
    let now : (halves_answered h d.gram.ask d.gram).inn.state ≡ InState.Refetch = ap (λ z. (halves_answered h z d.gram).inn.state) a.ask ∙ go (d.gram.counter == 0) (differs d.gram.acknowledge h.inn.bit) (a.acknowledged refl).0 (a.acknowledged refl).1 in
    let rest : w.rest ≡ slaves = ap (λ z. rest_of z) (sym e) in
    subst (λ z. whole_way slaves pace (half_way slaves pace z) ≤ w.rest) (sym now) (omega (arith, rest))
half_answered {M} slaves pace station h InState.Refetch d w is a e =
    let now : (halves_answered h d.gram.ask d.gram).inn.state ≡ InState.Clear = ap (λ z. (halves_answered h z d.gram).inn.state) a.ask in
    subst (λ z. whole_way slaves pace (half_way slaves pace z) ≤ w.rest) (sym now) (omega arith)

-- the life behind it is the epoch behind it
same_era : {M Q R : Type 0} (l : Life M Q R) (hand : Option Duty) → (reopens l hand).era ≡ l.era
same_era l None = refl
same_era l (Some duty) = at duty.target duty.stage
  where
    at : (target : ℕ) (stage : Stage) → (reopens_at l target stage).era ≡ l.era
    at target Stage.Drains = refl
    at target (Stage.Goes phase) = by (returns_to_init target)
      where
        by : (b : Bool) → (if b then record l { stand = reopening (opens_state target) true } else l).era ≡ l.era
        by true = refl
        by false = refl

stands_open : {M Q R : Type 0} (m : Life M Q R) (stand : Stand) → m.stand ≡ stand → stand ≡ Stand.Open → StandsAt m m.stand
stands_open m stand e f = subst (StandsAt m) (sym (e ∙ f)) tt

pub half_goes : {M Q R : Type 0} (x : Speech M Q R) (acknowledged : Q → Bool) (more : M → Bool) (passed : Q → Bool) (slaves pace frame : ℕ) (spot : Spot) (news : List (News M)) (back : List (Datagram M)) (came : Option (Bool × Option Found)) (l : Life M Q R) (d : Datagram M) (w : Way) →
    own spot.station back ≡ d ∷ [] → IsAnswered spot.station l.era.side.halves.inn.state l.era.side.halves.inn.bit d → half_way slaves pace l.era.side.halves.inn.state ≡ Some w →
    (life_back x acknowledged more passed frame spot news back came l Stand.Open).stand ≡ Stand.Open → GoesOn slaves pace w.rest (life_back x acknowledged more passed frame spot news back came l Stand.Open)
half_goes x acknowledged more passed slaves pace frame spot news back came l d w one a e stands =
    let station = spot.station in
    let h = l.era.side.halves in
    let m = life_back x acknowledged more passed frame spot news back came l Stand.Open in
    let era = era_back x acknowledged more passed station frame news back l.era in
    let side : m.era.side.halves ≡ era.side.halves = ap (λ z. z.side.halves) (same_era (record l { era = era }) era.account.hand) in
    let own_one : era.side.halves ≡ halves_answered h d.gram.ask d.gram = ap (λ z. halves_after station h (grams z)) one ∙ ap (λ (z : Bool). if z then halves_answered h d.gram.ask d.gram else h) (eq-eqb d.gram.station station a.station_is) in
    let whole = half_answered slaves pace station h h.inn.state d w refl a e in
    let way : way_of slaves pace m ≡ half_way slaves pace (halves_answered h d.gram.ask d.gram).inn.state = ap (stand_way slaves pace m.era.side.halves.inn.state) stands ∙ ap (λ z. half_way slaves pace z.inn.state) (side ∙ own_one) in
    record { whole = subst (λ z. whole_way slaves pace z ≤ w.rest) (sym way) whole; stands = stands_open m m.stand refl stands }

-- A LOST FRAME
without_one : {M : Type 0} (h : Halves M) (ask : Ask M) (b : Bool) → ((if b then halves_lost h ask else h).inn.state ≡ h.inn.state) ⊎ ((if b then halves_lost h ask else h).inn.state ≡ InState.Doubt)
without_one h ask false = inl refl
without_one h (Ask.WriteMail m) true = inl refl
without_one h Ask.ReadMail true = inr refl
without_one h (Ask.WriteRequest bit) true = inl refl
without_one h Ask.ReadAcknowledge true = inl refl
without_one h Ask.Other true = inl refl

-- a lost frame leaves the inward half or breaks it
pub without : {M : Type 0} (station : ℕ) (h : Halves M) (gs : List (Gram M)) → ((halves_without station h gs).inn.state ≡ h.inn.state) ⊎ ((halves_without station h gs).inn.state ≡ InState.Doubt)
without station h [] = inl refl
without {M} station h (g ∷ gs) = go (without_one h g.ask (g.station == station)) (without station (if g.station == station then halves_lost h g.ask else h) gs)
  where
    k : Halves M
    k = if g.station == station then halves_lost h g.ask else h

    go : (k.inn.state ≡ h.inn.state) ⊎ (k.inn.state ≡ InState.Doubt) → ((halves_without station k gs).inn.state ≡ k.inn.state) ⊎ ((halves_without station k gs).inn.state ≡ InState.Doubt) →
        ((halves_without station k gs).inn.state ≡ h.inn.state) ⊎ ((halves_without station k gs).inn.state ≡ InState.Doubt)
    go (inl e) (inl f) = inl (f ∙ e)
    go (inr e) (inl f) = inr (f ∙ e)
    go e (inr f) = inr f

pub lost_breaks : {M Q R : Type 0} (x : Speech M Q R) (acknowledged : Q → Bool) (more : M → Bool) (passed : Q → Bool) (slaves pace : ℕ) (spot : Spot) (news : List (News M)) (sent : List (Datagram M)) (l : Life M Q R) (stand : Stand) → l.stand ≡ stand → StandsAt l l.stand →
    (let m = life_lost x acknowledged more passed spot news sent l stand in StandsAt m m.stand × ((way_of slaves pace m ≡ way_of slaves pace l) ⊎ (whole_way slaves pace (way_of slaves pace m) ≤ broken slaves pace)))
lost_breaks x acknowledged more passed slaves pace spot news sent l (Stand.Opens o) e s = (s, inl refl)
lost_breaks x acknowledged more passed slaves pace spot news sent l Stand.Gone e s = (s, inl refl)
lost_breaks x acknowledged more passed slaves pace spot news sent l Stand.Open e s =
    let m = life_lost x acknowledged more passed spot news sent l Stand.Open in (
      stands_open m m.stand refl e,
      elim (without spot.station l.era.side.halves (grams (own spot.station sent))) [
        | inl same ↦ inl (ap (λ z. stand_way slaves pace z l.stand) same)
        | inr doubt ↦ inr (
            let way : way_of slaves pace m ≡ half_way slaves pace InState.Doubt = ap (λ z. stand_way slaves pace z l.stand) doubt ∙ ap (stand_way slaves pace InState.Doubt) e in
            subst (λ z. whole_way slaves pace z ≤ broken slaves pace) (sym way) (omega arith))
      ],
    )
