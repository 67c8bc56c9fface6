-- A life behind a frame that came back, for its hand, its halves and its row.
use Rattle.std.proofs.Common.{◌≡◌, ℕ, ◌==◌, Bool, true, false, Option, Some, None, List, [], ◌∷◌, ◌++◌, length, refl, sym, ap, ◌∙◌, subst, if◌then◌else◌, append-nil, eq-eqb, inl, inr}
use Rattle.std.specs.Prelude.{◌&&◌, not, option_map, drop}
use Rattle.plan_ring.specs.of_exchange_model.Exchange.{Speech, plain}
use Rattle.plan_ring.specs.of_exchange_model.Rows.{Row, left, row_heard, answer_after}
use Rattle.plan_ring.specs.of_slave_model.Moments.{NowAnswered}
use Rattle.idle_slaves.specs.Visited.{IsFor}
use Rattle.idle_slaves.specs.Waiting.{Wanted}
use Rattle.idle_slaves.proofs.Returning.{reopens_era}
use Rattle.plan_ring.specs.of_life_model.Lives.{Life, Era, Spot, Stand, life_back, era_back, reopens, reopens_at}
use Rattle.plan_ring.specs.of_life_model.Own.{own}
use Rattle.plan_ring.specs.of_link_model.Frames.{halves_after, halves_answered, halves_accept, all_accepted}
use Rattle.plan_ring.specs.of_segment_model.Ends.{Passing}
use Rattle.plan_ring.specs.of_segment_model.Record.{News, is_for}
use Rattle.plan_ring.specs.of_segment_model.Seats.{side_back}
use Rattle.plan_ring.specs.of_segment_model.Slaves.{Datagram, Found, grams}
use Rattle.plan_ring.specs.of_state_model.Accounts.{Duty, account_back, account_met, account_by, access_done}

module _ {M Q R : Type 0} (x : Speech M Q R) (acknowledged : Q → Bool) (more : M → Bool) (passed : Q → Bool) (frame : ℕ) (spot : Spot) (ns : List (News M)) (back : List (Datagram M)) (came : Option (Bool × Option Found)) (l : Life M Q R) (stands : l.stand ≡ Stand.Open) where
  abbrev pub behind : Life M Q R
  behind = life_back x acknowledged more passed frame spot ns back came l l.stand

  abbrev era : Era M Q R
  era = era_back x acknowledged more passed spot.station frame ns back l.era

  era_is : behind.era ≡ era
  era_is = ap (λ s. (life_back x acknowledged more passed frame spot ns back came l s).era) stands ∙ reopens_era (record l { era = era }) era.account.hand

  -- no datagram
  module _ (none : own spot.station back ≡ []) where
    pub hand_none : behind.era.account.hand ≡ l.era.account.hand
    hand_none = ap (λ (e : Era M Q R). e.account.hand) era_is ∙ ap (λ ds. (account_back spot.station frame l.era.account ds).hand) none

    pub halves_none : behind.era.side.halves ≡ l.era.side.halves
    halves_none = ap (λ (e : Era M Q R). e.side.halves) era_is ∙ ap (λ (ds : List (Datagram M)). halves_after spot.station l.era.side.halves (grams ds)) none

    pub now_none : behind.era.side.now ≡ option_map (λ r. row_heard x frame [] r) l.era.side.now
    now_none = ap (λ (e : Era M Q R). e.side.now) era_is ∙ ap (λ (ds : List (Datagram M)). option_map (λ r. row_heard x frame (all_accepted spot.station l.era.side.halves (grams ds)) r) l.era.side.now) none

    -- and so does the side, where its answer is the one of what was heard
    same_row : (now : Option (Row M Q R)) → ((r : Row M Q R) → now ≡ Some r → (z : ℕ) → answer_after z r.answer (x.ends r.service (plain x.emission r.heard)) ≡ r.answer) → option_map (λ r. row_heard x frame [] r) now ≡ now
    same_row None said = refl
    same_row (Some r) said = ap Some (
        let heard : r.heard ++ [] ≡ r.heard = append-nil r.heard in
        let answer : answer_after frame r.answer (x.ends r.service (plain x.emission (r.heard ++ []))) ≡ r.answer = ap (λ ms. answer_after frame r.answer (x.ends r.service (plain x.emission ms))) heard ∙ said r refl frame in
        (λ i. record r { heard = heard i; answer = answer i })
        )

    same_fresh : (b : Bool) → b && not false ≡ b
    same_fresh true = refl
    same_fresh false = refl

    pub side_none : NowAnswered x l.era.side → behind.era.side ≡ l.era.side
    side_none said =
        ap (λ (e : Era M Q R). e.side) era_is ∙ ap (λ (ds : List (Datagram M)). side_back x frame spot.station ds l.era.side) none
        ∙ (let fresh = same_fresh l.era.side.fresh in let now = same_row l.era.side.now said in (λ i. record l.era.side { fresh = fresh i; now = now i }))

  -- one
  module _ (d : Datagram M) (one : own spot.station back ≡ d ∷ []) (station : d.gram.station ≡ spot.station) where
    pub halves_one : behind.era.side.halves ≡ halves_answered l.era.side.halves d.gram.ask d.gram
    halves_one =
        ap (λ (e : Era M Q R). e.side.halves) era_is ∙ ap (λ (ds : List (Datagram M)). halves_after spot.station l.era.side.halves (grams ds)) one
        ∙ ap (λ (b : Bool). if b then halves_answered l.era.side.halves d.gram.ask d.gram else l.era.side.halves) (eq-eqb d.gram.station spot.station station)

    pub now_one : halves_accept l.era.side.halves d.gram.ask d.gram ≡ [] → behind.era.side.now ≡ option_map (λ r. row_heard x frame [] r) l.era.side.now
    now_one nothing =
        ap (λ (e : Era M Q R). e.side.now) era_is ∙ ap (λ (ds : List (Datagram M)). option_map (λ r. row_heard x frame (all_accepted spot.station l.era.side.halves (grams ds)) r) l.era.side.now) one
        ∙ ap (λ (b : Bool). option_map (λ r. row_heard x frame ((if b then halves_accept l.era.side.halves d.gram.ask d.gram else []) ++ []) r) l.era.side.now) (eq-eqb d.gram.station spot.station station)
        ∙ ap (λ ms. option_map (λ r. row_heard x frame (ms ++ []) r) l.era.side.now) nothing

    pub hand_one : (duty : Duty) → l.era.account.hand ≡ Some duty → is_for spot.station d.address ≡ true → (d.counter == 0) ≡ false → behind.era.account.hand ≡ (account_by frame l.era.account duty (access_done duty.target duty.stage d.access d.found)).hand
    hand_one duty hand address met =
        ap (λ (e : Era M Q R). e.account.hand) era_is ∙ ap (λ ds. (account_back spot.station frame l.era.account ds).hand) one ∙ ap (λ h. (account_met spot.station frame l.era.account h d).hand) hand
        ∙ ap (λ (b : Bool). (if b && not (d.counter == 0) then account_by frame l.era.account duty (access_done duty.target duty.stage d.access d.found) else l.era.account).hand) address
        ∙ ap (λ (b : Bool). (if not b then account_by frame l.era.account duty (access_done duty.target duty.stage d.access d.found) else l.era.account).hand) met

-- nothing was heard: what is left to tell stays
pub left_heard : {M Q R : Type 0} (x : Speech M Q R) (frame : ℕ) (now new : Option (Row M Q R)) → new ≡ option_map (λ r. row_heard x frame [] r) now → ((r : Row M Q R) → now ≡ Some r → left x r ≡ []) → (r : Row M Q R) → new ≡ Some r → left x r ≡ []
left_heard x frame None new e none r is = absurd (let no : None ≡ Some r = sym e ∙ is in cc)
left_heard {M} {Q} {R} x frame (Some old) new e none r is =
    let heard : row_heard x frame [] old ≡ r = (let both : Some (row_heard x frame [] old) ≡ Some r = sym e ∙ is in cc) in
    ap (λ (z : Row M Q R). left x z) (sym heard) ∙ ap (λ ms. drop (length old.told) (x.planned old.service (plain x.emission ms))) (append-nil old.heard) ∙ none old refl

-- with no state service past its drain the slave stays open
pub stand_for : {M Q R : Type 0} (x : Speech M Q R) (acknowledged : Q → Bool) (more : M → Bool) (passed : Q → Bool) (frame : ℕ) (spot : Spot) (ns : List (News M)) (back : List (Datagram M)) (came : Option (Bool × Option Found)) (l : Life M Q R) → l.stand ≡ Stand.Open →
    (q : Wanted) → (let k = life_back x acknowledged more passed frame spot ns back came l l.stand in IsFor q k.era.account.hand k.era.passing → k.stand ≡ Stand.Open)
stand_for {M} {Q} {R} x acknowledged more passed frame spot ns back came l stands q hand =
    let e = era_back x acknowledged more passed spot.station frame ns back l.era in
    ap (λ s. (life_back x acknowledged more passed frame spot ns back came l s).stand) stands
    ∙ stays (record l { era = e }) e.account.hand e.passing q (subst (λ (z : Era M Q R). IsFor q z.account.hand z.passing) (era_is x acknowledged more passed frame spot ns back came l stands) hand) ∙ stands
  where
    stays : (k : Life M Q R) (h : Option Duty) (p : Option Passing) (q : Wanted) → IsFor q h p → (reopens k h).stand ≡ k.stand
    stays k h p Wanted.Mails (none, unboxed) = ap (λ z. (reopens k z).stand) none
    stays k h p Wanted.Drains (inr (none, boxed)) = ap (λ z. (reopens k z).stand) none
    stays k h p Wanted.Drains (inl (duty, is, stage)) = ap (λ z. (reopens k z).stand) is ∙ ap (λ z. (reopens_at k duty.target z).stand) stage
