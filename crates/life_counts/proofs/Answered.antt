-- A MAIL THAT IS PASSED ON AND ANSWERED has its answer before a frame, where it is over, and where a state service is the newest.
use Rattle.std.proofs.Common.{◌≡◌, ℕ, suc, ◌&&◌, Bool, true, false, not, is_none, is_some, Option, None, Some, option_map, List, [], ◌∷◌, length, refl, ap, ap₂, sym, ◌∙◌, subst, arith, length-append, if◌then◌else◌}
use Rattle.std.specs.Prelude.{nat_lt}
use Rattle.std.proofs.lemmas.Bool.Decides.{nat_tests}
use Rattle.master_hand.specs.of_exchange_model.Exchange.{Exchange, Speech}
use Rattle.master_hand.specs.of_exchange_model.Rows.{Row, row_told, left}
use Rattle.few_replies.specs.of_life_model.Lives.{Era, era_next, granted, passing_begins}
use Rattle.few_replies.specs.Calm.{calm_tagged}
use Rattle.few_replies.specs.Erased.{OfRow}
use Rattle.few_replies.specs.Silent.{is_passed}
use Rattle.master_hand.specs.of_segment_model.Ends.{Passing}
use Rattle.master_hand.specs.of_segment_model.Seats.{Side, is_none_left, side_begins, side_holds, next_mail}
use Rattle.master_hand.specs.of_serving_model.Tagged.{Tagged, Asked}
use Rattle.master_hand.specs.of_state_model.Stated.{Service}
use Rattle.master_hand.specs.of_state_model.Accounts.{Account, Duty, Pick, Started, is_free, is_acknowledged, account_begins, state_begins, starts, mails_begin}
use Rattle.life_counts.proofs.Begins.{both_of, may_begin, may_not, nothing_begins, free_over}
use Rattle.life_counts.specs.Epochs.{newest_of}
use Rattle.life_counts.proofs.Marks.{newest_last}

less_more : (k : ℕ) → nat_lt k (suc k) ≡ true
less_more k = grind (arith, nat_tests)

module _ {V M Q R : Type 0} (x : Exchange V V M Q R) (calm : V → Bool) (fair : M → Bool) (acknowledged : Asked M Q → Bool) (more : Tagged M Q → Bool) where
  abbrev y : Speech (Tagged M Q) (Asked M Q) (Option R)
  y = (calm_tagged x calm fair).speech

  abbrev RowHere : Type 0
  RowHere = Row (Tagged M Q) (Asked M Q) (Option R)

  abbrev SideHere : Type 0
  SideHere = Side (Tagged M Q) (Asked M Q) (Option R)

  abbrev AccountHere : Type 0
  AccountHere = Account (Asked M Q) (Option R)

  -- IT HAS ITS ANSWER
  abbrev pub HasAnswer : RowHere → Type 0
  HasAnswer r = (m : M) → r.service ≡ Asked.Passed m true → is_some r.answer ≡ true

  abbrev pub AllAnswered : Option RowHere → Type 0
  AllAnswered now = OfRow HasAnswer now

  -- a state service is the newest
  abbrev pub StateLast : List (Started (Asked M Q)) → Type 0
  StateLast ss = (target : ℕ) × (newest_of ss ≡ Some (Service.State target))

  holds_answers : (d : SideHere) (ms : List (Tagged M Q)) → AllAnswered d.now → AllAnswered (side_holds d ms).now
  holds_answers d [] k = k
  holds_answers d (m ∷ ms) k = go d.now k
    where
      go : (now : Option RowHere) → AllAnswered now → AllAnswered (option_map (λ r. row_told m r) now)
      go None k = tt
      go (Some r) k = k

  free_answers : (d : SideHere) (now : Option RowHere) → is_free y d now ≡ true → AllAnswered now
  free_answers d None e = tt
  free_answers d (Some r) e = λ m is.
      (let part = (both_of (is_none_left (left y r)) (if y.handed r.service && is_none r.answer then is_none d.halves.out.holding else is_some r.answer && not d.fresh) e).1 in
      let last : (is_some r.answer && not d.fresh) ≡ true = sym (ap (λ (b : Bool). if b && is_none r.answer then is_none d.halves.out.holding else is_some r.answer && not d.fresh) (ap y.handed is)) ∙ part in
      (both_of (is_some r.answer) (not d.fresh) last).0)

  module _ (frame : ℕ) (d : SideHere) (a : AccountHere) where
    abbrev Begun : Option Duty → Option (Service (Asked M Q)) → Type 0
    Begun hand wish = AllAnswered (side_begins y frame d d.now (mails_begin hand wish)).now

    abbrev account : Option Duty → Option (Service (Asked M Q)) → AccountHere
    account hand wish = account_begins y acknowledged frame d a hand wish

    no_side : AllAnswered d.now → AllAnswered (side_begins y frame d d.now None).now
    no_side k = subst (λ (e : SideHere). AllAnswered e.now) (sym (nothing_begins y frame d d.now)) k

    not_begun : (q : Asked M Q) → (y.valid q && is_free y d d.now) ≡ false → AllAnswered d.now → AllAnswered (side_begins y frame d d.now (Some q)).now
    not_begun q e k = subst (λ (z : SideHere). AllAnswered z.now) (sym (may_not y frame d d.now q e)) k

    -- WHERE A STATE SERVICE IS THE NEWEST, also one that begins
    rests_by : (hand : Option Duty) (wish : Option (Service (Asked M Q))) → (StateLast a.started → AllAnswered d.now) → StateLast (account hand wish).started → Begun hand wish
    rests_by None None base l = no_side (base l)
    rests_by (Some duty) None base l = no_side (base l)
    rests_by (Some duty) (Some wish) base l = no_side (base l)
    rests_by None (Some (Service.Mails q)) base l = go (y.valid q && is_free y d d.now) refl l
      where
        go : (b : Bool) → (y.valid q && is_free y d d.now) ≡ b → StateLast (if b then record a { started = starts a (Service.Mails q) frame } else a).started → AllAnswered (side_begins y frame d d.now (Some q)).now
        go true e l = absurd (let no : Some (Service.Mails q) ≡ Some (Service.State l.0) = sym (newest_last a.started (record { service = Service.Mails q; frame = frame })) ∙ l.1 in cc)
        go false e l = not_begun q e (base l)
    rests_by None (Some (Service.State target)) base l = go (is_free y d d.now && is_acknowledged y acknowledged d d.now) refl l
      where
        go : (b : Bool) → (is_free y d d.now && is_acknowledged y acknowledged d d.now) ≡ b → StateLast (if b then state_begins a target frame else a).started → AllAnswered (side_begins y frame d d.now None).now
        go true e l = no_side (free_answers d d.now (both_of (is_free y d d.now) (is_acknowledged y acknowledged d d.now) e).0)
        go false e l = no_side (base l)

    -- WHERE NO MAIL IS PASSED ON that isn't over
    abbrev passing : Option Duty → Option (Service (Asked M Q)) → Option Passing
    passing hand wish = passing_begins y acknowledged more is_passed None a (account hand wish) wish

    over_by : (hand : Option Duty) (wish : Option (Service (Asked M Q))) → AllAnswered d.now → passing hand wish ≡ None → Begun hand wish
    over_by None None base none = no_side base
    over_by (Some duty) None base none = no_side base
    over_by (Some duty) (Some wish) base none = no_side base
    over_by None (Some (Service.State target)) base none = no_side base
    over_by None (Some (Service.Mails q)) base none = go (y.valid q && is_free y d d.now) refl none
      where
        grown : length (starts a (Service.Mails q) frame) ≡ suc (length a.started)
        grown = let e = length-append a.started (record { service = Service.Mails q; frame = frame } ∷ []) in omega (arith, e)

        go : (b : Bool) → (y.valid q && is_free y d d.now) ≡ b →
            (if is_passed q && nat_lt (length a.started) (length (if b then record a { started = starts a (Service.Mails q) frame } else a).started) then Some Passing.Waiting else None) ≡ None → AllAnswered (side_begins y frame d d.now (Some q)).now
        go false e none = not_begun q e base
        go true e none =
            let parts = both_of (y.valid q) (is_free y d d.now) e in
            subst (λ (z : SideHere). AllAnswered z.now) (sym (may_begin y frame d d.now q parts.0 (free_over y d d.now parts.1)))
            (λ m is. absurd (let waits : (if is_passed q && nat_lt (length a.started) (length (starts a (Service.Mails q) frame)) then Some Passing.Waiting else None) ≡ Some Passing.Waiting =
            ap₂ (λ (u v : Bool). if u && v then Some Passing.Waiting else None) (ap is_passed is) (ap (nat_lt (length a.started)) grown ∙ less_more (length a.started)) in
            let no : Some Passing.Waiting ≡ None = sym waits ∙ none in cc))

  -- THE EPOCH BEFORE A FRAME
  abbrev EraHere : Type 0
  EraHere = Era (Tagged M Q) (Asked M Q) (Option R)

  abbrev next : ℕ → EraHere → Pick (Asked M Q) → EraHere
  next frame e pick = era_next y acknowledged more is_passed frame e pick

  pub next_rests : (frame : ℕ) (e : EraHere) (pick : Pick (Asked M Q)) → (StateLast e.account.started → AllAnswered e.side.now) → StateLast (next frame e pick).account.started → AllAnswered (next frame e pick).side.now
  next_rests frame e pick base l =
      let p = granted e.passing pick in
      let b = side_begins y frame e.side e.side.now (mails_begin e.account.hand p.begin) in
      holds_answers b (next_mail y b.now b.halves.out.holding p.hold) (rests_by frame e.side e.account e.account.hand p.begin base l)

  next_by : (frame : ℕ) (cleared opened : Option ℕ) (state : ℕ) (d : SideHere) (a : AccountHere) (o : Option Passing) (pick : Pick (Asked M Q)) → (let e : EraHere = record { cleared = cleared; opened = opened; state = state; side = d; account = a; passing = o } in
      (o ≡ None → AllAnswered d.now) → (next frame e pick).passing ≡ None → AllAnswered (next frame e pick).side.now)
  next_by frame cleared opened state d a None pick base none =
      let b = side_begins y frame d d.now (mails_begin a.hand pick.begin) in
      holds_answers b (next_mail y b.now b.halves.out.holding pick.hold) (over_by frame d a a.hand pick.begin (base refl) none)
  next_by frame cleared opened state d a (Some p) pick base none = absurd (let no : Some p ≡ None = none in cc)

  pub next_over : (frame : ℕ) (e : EraHere) (pick : Pick (Asked M Q)) → (e.passing ≡ None → AllAnswered e.side.now) → (next frame e pick).passing ≡ None → AllAnswered (next frame e pick).side.now
  next_over frame e pick base none = next_by frame e.cleared e.opened e.state e.side e.account e.passing pick base none
