-- The access in hand of a repair: what comes into hand leaves it, and a lost frame leaves it or breaks it.
use Rattle.std.proofs.Common.{◌≡◌, ◌⊎◌, ℕ, ◌≤◌, ◌==◌, ◌&&◌, not, Bool, true, false, Option, Some, None, List, [], ◌∷◌, ◌++◌, refl, sym, ap, ◌∙◌, subst, arith, if◌then◌else◌, inl, inr, eq-eqb}
use Rattle.std.specs.Prelude.{nat_lt, length}
use Rattle.life_runs.specs.of_exchange_model.Exchange.{Speech}
use Rattle.life_runs.specs.of_exchange_model.Rows.{Row, begun}
use Rattle.life_runs.specs.of_link_model.Master.{InState}
use Rattle.life_runs.specs.of_link_model.Frames.{halves_without}
use Rattle.life_runs.specs.of_segment_model.Record.{News}
use Rattle.life_runs.specs.of_segment_model.Slaves.{Datagram, grams}
use Rattle.life_runs.specs.of_segment_model.Seats.{Side, side_begins, side_holds, is_over}
use Rattle.life_runs.specs.of_state_model.Accounts.{Pick}
use Rattle.life_runs.specs.of_life_model.Own.{own}
use Rattle.life_runs.specs.of_life_model.Lives.{Stand, Life, Spot, life_next, life_lost, gives_up, reopening}
use Rattle.life_runs.specs.of_life_model.Tally.{broken}
use Rattle.life_runs.proofs.of_life_model.Halving.{without}
use Rattle.life_runs.specs.of_life_model.Repairs.{Way, way_of, stand_way, half_way, whole_way, StandsAt}
use Rattle.run_frames.specs.Goes.{is_same}

-- the same access is in hand
pub record SameAccess {M Q R : Type 0} (l m : Life M Q R) : Type 0 where
  pub stand : m.stand ≡ l.stand
  pub state : m.era.side.halves.inn.state ≡ l.era.side.halves.inn.state

pub same_way : {M Q R : Type 0} (slaves pace : ℕ) (l m : Life M Q R) → SameAccess l m → way_of slaves pace m ≡ way_of slaves pace l
same_way slaves pace l m s = ap (λ z. stand_way slaves pace z m.stand) s.state ∙ ap (stand_way slaves pace l.era.side.halves.inn.state) s.stand

pub same_before : {M Q R : Type 0} (l m n : Life M Q R) → SameAccess l m → SameAccess m n → SameAccess l n
same_before l m n a b = record { stand = b.stand ∙ a.stand; state = b.state ∙ a.state }

itself : (w : Option Way) → is_same w w ≡ true
itself None = refl
itself (Some w) = go (w.rest == w.rest) w.awaits (eq-eqb w.rest w.rest refl)
  where
    go : (a b : Bool) → a ≡ true → (a && (if b then b else not b)) ≡ true
    go true true e = refl
    go true false e = refl
    go false b e = absurd (cc)

pub is_same_way : (v w : Option Way) → w ≡ v → is_same v w ≡ true
is_same_way v w e = ap (is_same v) e ∙ itself v

-- WHAT COMES INTO HAND leaves it
pub begins_same : {M Q R : Type 0} (x : Speech M Q R) (frame : ℕ) (d : Side M Q R) (now : Option (Row M Q R)) (begin : Option Q) → (side_begins x frame d now begin).halves.inn ≡ d.halves.inn
begins_same x frame d now None = refl
begins_same x frame d None (Some q) = go (x.valid q)
  where
    go : (b : Bool) → (if b then record d { now = Some (begun q frame) } else d).halves.inn ≡ d.halves.inn
    go true = refl
    go false = refl
begins_same x frame d (Some r) (Some q) = go (x.valid q && is_over x d.halves.out.holding d.fresh r)
  where
    go : (b : Bool) → (if b then record d { past = d.past ++ r ∷ []; now = Some (begun q frame) } else d).halves.inn ≡ d.halves.inn
    go true = refl
    go false = refl

pub holds_same : {M Q R : Type 0} (d : Side M Q R) (ms : List M) → (side_holds d ms).halves.inn ≡ d.halves.inn
holds_same d [] = refl
holds_same d (m ∷ ms) = refl

pub next_same : {M Q R : Type 0} (x : Speech M Q R) (acknowledged : Q → Bool) (more : M → Bool) (passed : Q → Bool) (frame : ℕ) (l : Life M Q R) (stand : Stand) (pick : Pick Q) → SameAccess l (life_next x acknowledged more passed frame l stand pick)
next_same x acknowledged more passed frame l (Stand.Opens o) pick = record { stand = refl; state = refl }
next_same x acknowledged more passed frame l Stand.Gone pick = record { stand = refl; state = refl }
next_same x acknowledged more passed frame l Stand.Open pick = record {
  stand = refl;
  state = ap (λ z. z.state) (holds_same _ _ ∙ begins_same x frame l.era.side l.era.side.now _);
}

-- A LOST FRAME
-- what is broken takes no longer than a reopening, in a ring of any size
pub record IsBroken {M Q R : Type 0} (m : Life M Q R) : Type 0 where
  pub whole : (slaves pace : ℕ) → whole_way slaves pace (way_of slaves pace m) ≤ broken slaves pace

pub stands_open : {M Q R : Type 0} (m : Life M Q R) (stand : Stand) → m.stand ≡ stand → stand ≡ Stand.Open → StandsAt m m.stand
stands_open m stand e f = subst (StandsAt m) (sym (e ∙ f)) tt

module _ {M Q R : Type 0} (x : Speech M Q R) (acknowledged : Q → Bool) (more : M → Bool) (passed : Q → Bool) (spot : Spot) (news : List (News M)) (sent : List (Datagram M)) where
  pub lost_access : (l : Life M Q R) (stand : Stand) → l.stand ≡ stand → (let m = life_lost x acknowledged more passed spot news sent l stand in SameAccess l m ⊎ IsBroken m)
  lost_access l (Stand.Opens o) e = inl (record { stand = refl; state = refl })
  lost_access l Stand.Gone e = inl (record { stand = refl; state = refl })
  lost_access l Stand.Open e =
      let m = life_lost x acknowledged more passed spot news sent l Stand.Open in
      elim (without spot.station l.era.side.halves (grams (own spot.station sent))) [
        | inl same ↦ inl (record { stand = refl; state = same })
        | inr doubt ↦ inr (record {
          whole = λ slaves pace.
              let way : way_of slaves pace m ≡ half_way slaves pace InState.Doubt = ap (λ z. stand_way slaves pace z l.stand) doubt ∙ ap (stand_way slaves pace InState.Doubt) e in
              subst (λ z. whole_way slaves pace z ≤ broken slaves pace) (sym way) (omega arith);
        })
      ]

  -- one that doesn't carry the slave leaves it
  pub passed_access : (l : Life M Q R) (stand : Stand) → own spot.station sent ≡ [] → SameAccess l (life_lost x acknowledged more passed spot news sent l stand)
  passed_access l (Stand.Opens o) e = record { stand = refl; state = refl }
  passed_access l Stand.Gone e = record { stand = refl; state = refl }
  passed_access l Stand.Open e = record { stand = refl; state = ap (λ z. (halves_without spot.station l.era.side.halves (grams z)).inn.state) e }

  pub lost_stands : (l : Life M Q R) (stand : Stand) → l.stand ≡ stand → StandsAt l l.stand → (let m = life_lost x acknowledged more passed spot news sent l stand in StandsAt m m.stand)
  lost_stands l (Stand.Opens o) e s = s
  lost_stands l Stand.Gone e s = s
  lost_stands l Stand.Open e s = stands_open (life_lost x acknowledged more passed spot news sent l Stand.Open) l.stand refl e

-- A GIVE-UP
pub gives_up_breaks : {M Q R : Type 0} (recover frame : ℕ) (spot : Spot) (l : Life M Q R) → IsBroken (gives_up recover spot frame l)
gives_up_breaks {M} {Q} {R} recover frame spot l = record { whole = λ slaves pace. go slaves pace (nat_lt (length l.gave) recover) }
  where
    go : (slaves pace : ℕ) (b : Bool) → (let m : Life M Q R = record l { stand = if b then reopening spot.start false else Stand.Gone; gave = l.gave ++ frame ∷ [] } in whole_way slaves pace (way_of slaves pace m) ≤ broken slaves pace)
    go slaves pace true = omega arith
    go slaves pace false = omega arith

pub gives_up_stands : {M Q R : Type 0} (recover frame : ℕ) (spot : Spot) (l : Life M Q R) → (let m = gives_up recover spot frame l in StandsAt m m.stand)
gives_up_stands {M} {Q} {R} recover frame spot l = go (nat_lt (length l.gave) recover)
  where
    go : (b : Bool) → (let m : Life M Q R = record l { stand = if b then reopening spot.start false else Stand.Gone; gave = l.gave ++ frame ∷ [] } in StandsAt m m.stand)
    go true = record { first = omega arith; last = omega arith; new = λ e. absurd (let less : 3 ≤ 1 = e refl in omega (arith, less)) }
    go false = tt

-- how a life stands is how one stands with the same access and, where it is opened, the same epoch
pub next_stands : {M Q R : Type 0} (x : Speech M Q R) (acknowledged : Q → Bool) (more : M → Bool) (passed : Q → Bool) (frame : ℕ) (l : Life M Q R) (stand : Stand) (pick : Pick Q) → l.stand ≡ stand → StandsAt l l.stand →
    (let m = life_next x acknowledged more passed frame l stand pick in StandsAt m m.stand)
next_stands x acknowledged more passed frame l (Stand.Opens o) pick e s = s
next_stands x acknowledged more passed frame l Stand.Gone pick e s = s
next_stands x acknowledged more passed frame l Stand.Open pick e s = stands_open (life_next x acknowledged more passed frame l Stand.Open pick) l.stand refl e
