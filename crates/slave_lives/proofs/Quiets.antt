-- A FRAME WITHOUT DATAGRAMS of an open slave leaves the master's view of its epoch, and the node lives it on.
use Rattle.std.proofs.Common.{◌≡◌, ◌⊎◌, inl, inr, ℕ, ◌&&◌, Bool, true, false, List, [], ◌∷◌, ◌++◌, length, refl, ap, sym, ◌∙◌, subst, append-nil}
use Rattle.std.specs.Prelude.{Option, Some, None, if◌then◌else◌, option_map}
use Rattle.std.proofs.lemmas.Bool.{eq-eqb}
use Rattle.frames_seen.specs.of_exchange_model.Exchange.{Speech, plain}
use Rattle.frames_seen.specs.of_exchange_model.Rows.{Row, row_heard, answer_after}
use Rattle.frames_seen.specs.of_link_mails.Body.{Body}
use Rattle.frames_seen.specs.of_link_model.Frames.{IsFrameFor, IsSent}
use Rattle.frames_seen.specs.of_link_model.Segment.{RingFate}
use Rattle.frames_seen.specs.of_segment_model.Ends.{Passing}
use Rattle.frames_seen.specs.of_segment_model.Record.{Frame, is_for}
use Rattle.frames_seen.specs.of_segment_model.Seats.{Side, side_begins, side_holds, side_next, side_back, side_lost, next_mail}
use Rattle.frames_seen.specs.of_segment_model.Slaves.{Datagram, Address, Access, grams}
use Rattle.frames_seen.specs.of_state_model.Accounts.{Account, Duty, Pick, IsServed, account_begins, account_next, account_back, mails_begin, mails_choice, duty_access}
use Rattle.frames_seen.specs.of_state_model.Stated.{Service}
use Rattle.frames_seen.specs.of_life_model.Lives.{Spot, Era, AsksOpen, ReadsFull, granted, era_next, era_after, passing_begins, passes}
use Rattle.frames_seen.specs.of_life_model.Own.{own}
use Rattle.slave_lives.specs.Ends.{no_pick, IsAnswered, YetFrame}
use Rattle.slave_lives.specs.Lived.{Behind, IsBehind, LivesEra, RingFrame, node_behind, frame_of, OpenFrame}
use Rattle.slave_lives.proofs.RingLives.{lived_on}

module _ {M Q R : Type 0} (x : Speech M Q R) (acknowledged : Q → Bool) (more : M → Bool) (passed : Q → Bool) where
  -- no wish begins nothing
  grants_none : (p : Option Passing) → granted p (no_pick {Q = Q}) ≡ no_pick
  grants_none None = refl
  grants_none (Some p) = refl

  begins_none : (frame : ℕ) (d : Side M Q R) (now : Option (Row M Q R)) → side_begins x frame d now None ≡ d
  begins_none frame d None = refl
  begins_none frame d (Some r) = refl

  holds_none : (now : Option (Row M Q R)) (e : Side M Q R) → next_mail x now e.halves.out.holding false ≡ []
  holds_none None e = refl
  holds_none (Some r) e = refl

  counts_none : (frame : ℕ) (d : Side M Q R) (a : Account Q R) (hand : Option Duty) → account_begins x acknowledged frame d a hand None ≡ a
  counts_none frame d a None = refl
  counts_none frame d a (Some duty) = refl

  passes_none : (p : Option Passing) (old new : Account Q R) → passing_begins x acknowledged more passed p old new None ≡ p
  passes_none p old new = refl

  pub quiet_next : (frame : ℕ) (e : Era M Q R) → era_next x acknowledged more passed frame e no_pick ≡ e
  quiet_next frame e = ap (λ (p : Pick Q). by p) (grants_none e.passing) ∙ (λ i. record { cleared = e.cleared; opened = e.opened; state = e.state; side = side i; account = account i; passing = e.passing })
    where
      by : Pick Q → Era M Q R
      by p =
          let account = account_next x acknowledged frame e.side e.account p in
          record { cleared = e.cleared; opened = e.opened; state = e.state; side = side_next x frame e.side (mails_choice e.account p); account = account; passing = passing_begins x acknowledged more passed e.passing e.account account p.begin }

      none : (hand : Option Duty) → mails_begin hand (let n : Option (Service Q) = None in n) ≡ None
      none None = refl
      none (Some duty) = refl

      side : side_next x frame e.side (mails_choice e.account no_pick) ≡ e.side
      side =
          ap (λ (b : Option Q). let d = side_begins x frame e.side e.side.now b in side_holds d (next_mail x d.now d.halves.out.holding false)) (none e.account.hand)
          ∙ ap (λ (d : Side M Q R). side_holds d (next_mail x d.now d.halves.out.holding false)) (begins_none frame e.side e.side.now)
          ∙ ap (side_holds e.side) (holds_none e.side.now e.side)

      account : account_next x acknowledged frame e.side e.account no_pick ≡ e.account
      account = counts_none frame e.side e.account e.account.hand

  -- and without its datagrams nothing goes on
  stays_fresh : (b : Bool) → (b && true) ≡ b
  stays_fresh true = refl
  stays_fresh false = refl

  hears_none : (frame : ℕ) (now : Option (Row M Q R)) → IsAnswered x now → option_map (λ r. row_heard x frame [] r) now ≡ now
  hears_none frame None answered = refl
  hears_none frame (Some r) answered =
      let heard = append-nil r.heard in
      let answer = ap (λ hs. answer_after frame r.answer (x.ends r.service (plain x.emission hs))) heard ∙ answered frame in
      ap (λ (s : Row M Q R). Some s) (λ i. record r { heard = heard i; answer = answer i })

  passes_on : (p : Option Passing) → passes x acknowledged more passed p [] ≡ p
  passes_on None = refl
  passes_on (Some p) = refl

  quiet_back : (station frame : ℕ) (e : Era M Q R) → IsAnswered x e.side.now → (let d = side_back x frame station [] e.side in d ≡ e.side)
  quiet_back station frame e answered = λ i. record { halves = e.side.halves; fresh = stays_fresh e.side.fresh i; past = e.side.past; now = hears_none frame e.side.now answered i }

  quiet_lost : (station : ℕ) (e : Era M Q R) → side_lost station (let none : List (Datagram M) = [] in none) e.side ≡ e.side
  quiet_lost station e = λ i. record { halves = e.side.halves; fresh = stays_fresh e.side.fresh i; past = e.side.past; now = e.side.now }

  pub quiet_after : (station frame : ℕ) (sent : List (Datagram M)) (fate : RingFate) (back : List (Datagram M)) (e : Era M Q R) → own station sent ≡ [] → own station back ≡ [] → IsAnswered x e.side.now →
      era_after x acknowledged more passed station frame [] sent fate back e ≡ e
  quiet_after station frame sent RingFate.Back back e none_sent none_back answered =
      let side : side_back x frame station (own station back) e.side ≡ e.side = ap (λ ds. side_back x frame station ds e.side) none_back ∙ quiet_back station frame e answered in
      let account : account_back station frame e.account (own station back) ≡ e.account = ap (λ ds. account_back station frame e.account ds) none_back in
      λ i. record { cleared = e.cleared; opened = e.opened; state = e.state; side = side i; account = account i; passing = passes_on e.passing i }
  quiet_after station frame sent (RingFate.Lost after) back e none_sent none_back answered =
      let side : side_lost station (own station sent) e.side ≡ e.side = ap (λ ds. side_lost station ds e.side) none_sent ∙ quiet_lost station e in
      λ i. record { cleared = e.cleared; opened = e.opened; state = e.state; side = side i; account = e.account; passing = passes_on e.passing i }

-- what has no own datagrams reads nothing
reads_none : {M : Type 0} (station : ℕ) (ds : List (Datagram M)) → ReadsFull station ds → own station ds ≡ [] → ⊥
reads_none station [] reads none = reads
reads_none {M} station (d ∷ ds) reads none = go (is_for station d.address) refl none reads (λ r e. reads_none station ds r e)
  where
    go : (b : Bool) → is_for station d.address ≡ b → (if b then d ∷ own station ds else own station ds) ≡ [] → ((d.address ≡ Address.Station station) × (d.access ≡ Access.ReadFull)) ⊎ ReadsFull station ds → (ReadsFull station ds → own station ds ≡ [] → ⊥) → ⊥
    go true e none reads again = cc
    go false e none (inl mine) again = let no : false ≡ true = sym e ∙ ap (is_for station) mine.0 ∙ eq-eqb station station refl in cc
    go false e none (inr reads) again = again reads none

module _ {S V A Q R : Type 0} (w : Behind S V A Q R) (is : IsBehind w) (more : Body → Bool) (passed : Q → Bool) where
  pub asks_none : (spot : Spot) (e : Era Body Q R) (sent : List (Datagram Body)) → own spot.station sent ≡ [] → AsksOpen spot.station e sent
  asks_none spot e sent none = record {
    halves = subst (λ ds. IsFrameFor spot.station e.side.halves (grams ds)) (sym none) IsSent.nothing;
    served = subst (λ ds. IsServed spot.station (duty_access e.account.hand) ds) (sym none) IsServed.nothing;
    status = λ reads. absurd (reads_none spot.station sent reads none);
  }

  pub lives_yet : (spot : Spot) (from : A) (e : Era Body Q R) (fs : List (Frame Body)) (t : RingFrame S) → YetFrame w spot from e fs t → LivesEra w spot from e (fs ++ frame_of w.lens t ∷ []) (node_behind w.running t)
  lives_yet spot from e fs t y =
      let f = frame_of w.lens t in
      let next = era_next w.exchange.speech w.states.acknowledged more passed (length fs) e no_pick in
      let same : next ≡ e = quiet_next w.exchange.speech w.states.acknowledged more passed (length fs) e in
      let o : OpenFrame w more passed spot from e fs t no_pick = record { at = y.at; lives = y.lives; alone = y.alone; asks = asks_none spot next f.sent y.quiet.sent; steps = y.steps } in
      let on = lived_on w is more passed spot from e fs t no_pick [] o in
      let still : era_after w.exchange.speech w.states.acknowledged more passed spot.station (length fs) [] f.sent f.fate f.back next ≡ e =
      ap (λ (x : Era Body Q R). era_after w.exchange.speech w.states.acknowledged more passed spot.station (length fs) [] f.sent f.fate f.back x) same
      ∙ quiet_after w.exchange.speech w.states.acknowledged more passed spot.station (length fs) f.sent f.fate f.back e y.quiet.sent y.quiet.back y.quiet.answered in
      subst (λ x. LivesEra w spot from x (fs ++ f ∷ []) (node_behind w.running t)) still on.lives
