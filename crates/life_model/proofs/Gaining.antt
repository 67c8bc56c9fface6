-- Gains never fall, and each visit that is done gains.
use Rattle.std.proofs.Common.{◌≡◌, ℕ, suc, ◌+◌, ◌≤◌, ◌==◌, Bool, true, false, Option, Some, None, List, [], ◌∷◌, ◌++◌, length, refl, ap, ◌∙◌, arith, if◌then◌else◌, length-append, eq-eqb}
use Rattle.std.specs.Prelude.{◌&&◌, not, option_map}
use Rattle.state_model.specs.of_exchange_model.Exchange.{Speech}
use Rattle.state_model.specs.of_exchange_model.Rows.{Row, begun, left, row_heard, row_told}
use Rattle.state_model.specs.of_link_model.Mails.{LinkMail}
use Rattle.state_model.specs.of_link_model.Link.{Halves}
use Rattle.state_model.specs.of_link_model.Frames.{Ask, Gram, halves_after, halves_answered, halves_without, halves_lost, all_accepted}
use Rattle.state_model.specs.of_segment_model.Slaves.{Datagram, Access, Found, grams}
use Rattle.state_model.specs.of_segment_model.Record.{News, is_for}
use Rattle.state_model.specs.of_segment_model.Ends.{Outcome}
use Rattle.state_model.specs.of_segment_model.Seats.{Side, Choice, side_begins, side_holds, side_next, next_mail, first_left, is_over}
use Rattle.state_model.specs.States.{Phase, Turn, shown}
use Rattle.state_model.specs.Stated.{Service}
use Rattle.state_model.specs.Accounts.{Stage, Duty, Change, Account, Pick, Progress, mails_choice, account_begins, account_back, account_met, account_by, access_done, word_done, found_done, turn_progress, is_free, is_acknowledged, starts, state_begins}
use Rattle.life_model.specs.Own.{own}
use Rattle.life_model.specs.Lives.{Era, Life, Stand, Spot, Opening, life_next, life_back, life_lost, era_back, opening_back, clears, opens, steps_on, shows_clear, last_step, is_shown, reopens, reopens_at, reopening, opens_state, returns_to_init, granted}
use Rattle.life_model.specs.Gains.{row_gains, rows_gains, newest_gains, phase_gains, stage_gains, duty_gains, progress_gains, changes_gains, idle_gains, side_gains, account_gains, era_gains, eras_gains, gains}

-- LISTS OF ONE MORE
rows_more : {M Q R : Type 0} (rs : List (Row M Q R)) (r : Row M Q R) → rows_gains (rs ++ r ∷ []) ≡ rows_gains rs + row_gains r
rows_more [] r = omega arith
rows_more (s ∷ rs) r = omega (arith, rows_more rs r)

changes_more : {R : Type 0} (cs : List (Change R)) (c : Change R) → changes_gains (cs ++ c ∷ []) ≡ changes_gains cs + 5
changes_more [] c = omega arith
changes_more (d ∷ cs) c = omega (arith, changes_more cs c)

eras_more : {M Q R : Type 0} (es : List (Era M Q R)) (e : Era M Q R) → eras_gains (es ++ e ∷ []) ≡ eras_gains es + era_gains e
eras_more [] e = omega arith
eras_more (f ∷ es) e = omega (arith, eras_more es e)

-- ---- BEFORE A FRAME
-- what a side has gained, with its outward half
abbrev whole : {M Q R : Type 0} → Side M Q R → ℕ
whole d = side_gains d + idle_gains d.halves.out.holding

begins_same : {M Q R : Type 0} (x : Speech M Q R) (frame : ℕ) (d : Side M Q R) (now : Option (Row M Q R)) (begin : Option Q) → d.now ≡ now → whole (side_begins x frame d now begin) ≡ whole d
begins_same x frame d now None e = refl
begins_same x frame d None (Some q) e = go (x.valid q)
  where
    go : (b : Bool) → whole (if b then record d { now = Some (begun q frame) } else d) ≡ whole d
    go true = omega (arith, ap newest_gains e)
    go false = refl
begins_same x frame d (Some r) (Some q) e = go (x.valid q && is_over x d.halves.out.holding d.fresh r)
  where
    go : (b : Bool) → whole (if b then record d { past = d.past ++ r ∷ []; now = Some (begun q frame) } else d) ≡ whole d
    go true = omega (arith, ap newest_gains e, rows_more d.past r)
    go false = refl

holds_same : {M Q R : Type 0} (x : Speech M Q R) (d : Side M Q R) (now : Option (Row M Q R)) (holding : Option (LinkMail M)) (hold : Bool) → d.now ≡ now → d.halves.out.holding ≡ holding → whole (side_holds d (next_mail x now holding hold)) ≡ whole d
holds_same x d now holding false e f = refl
holds_same x d None holding true e f = refl
holds_same x d (Some r) (Some m) true e f = refl
holds_same {M} x d (Some r) None true e f = go (left x r)
  where
    go : (ms : List M) → whole (side_holds d (first_left ms)) ≡ whole d
    go [] = refl
    go (m ∷ ms) =
        let told : newest_gains (option_map (λ k. row_told m k) d.now) ≡ suc (row_gains r) = ap (λ z. newest_gains (option_map (λ k. row_told m k) z)) e ∙ omega (arith, length-append r.told (m ∷ [])) in
        omega (arith, told, ap newest_gains e, ap idle_gains f)

side_same : {M Q R : Type 0} (x : Speech M Q R) (frame : ℕ) (d : Side M Q R) (c : Choice Q) → whole (side_next x frame d c) ≡ whole d
side_same x frame d c = let e = side_begins x frame d d.now c.begin in holds_same x e e.now e.halves.out.holding c.hold refl refl ∙ begins_same x frame d d.now c.begin refl

account_same : {M Q R : Type 0} (x : Speech M Q R) (acknowledged : Q → Bool) (frame : ℕ) (d : Side M Q R) (a : Account Q R) (hand : Option Duty) (begin : Option (Service Q)) → a.hand ≡ hand → account_gains (account_begins x acknowledged frame d a hand begin) ≡ account_gains a
account_same x acknowledged frame d a hand None e = refl
account_same x acknowledged frame d a (Some duty) (Some wish) e = refl
account_same x acknowledged frame d a None (Some (Service.Mails q)) e = go (x.valid q && is_free x d d.now)
  where
    go : (b : Bool) → account_gains (if b then record a { started = starts a (Service.Mails q) frame } else a) ≡ account_gains a
    go true = refl
    go false = refl
account_same x acknowledged frame d a None (Some (Service.State target)) e = go (is_free x d d.now && is_acknowledged x acknowledged d d.now)
  where
    go : (b : Bool) → account_gains (if b then state_begins a target frame else a) ≡ account_gains a
    go true = omega (arith, ap duty_gains e)
    go false = refl

pub next_same : {M Q R : Type 0} (x : Speech M Q R) (acknowledged : Q → Bool) (more : M → Bool) (passed : Q → Bool) (frame : ℕ) (l : Life M Q R) (stand : Stand) (pick : Pick Q) → gains (life_next x acknowledged more passed frame l stand pick) ≡ gains l
next_same x acknowledged more passed frame l (Stand.Opens o) pick = refl
next_same x acknowledged more passed frame l Stand.Gone pick = refl
next_same x acknowledged more passed frame l Stand.Open pick =
    let e = l.era in
    let p = granted e.passing pick in
    omega (arith, side_same x frame e.side (mails_choice e.account p), account_same x acknowledged frame e.side e.account e.account.hand p.begin refl)

-- ---- BEHIND A FRAME
-- the outward half
idle_one : {M : Type 0} (h : Halves M) (ask : Ask M) (g : Gram M) → idle_gains h.out.holding ≤ idle_gains (halves_answered h ask g).out.holding
idle_one {M} h (Ask.WriteMail m) g = go (g.counter == 0) h.out.holding
  where
    go : (b : Bool) (holding : Option (LinkMail M)) → idle_gains holding ≤ idle_gains (if b then record h.out { holding = holding } else record h.out { holding = None }).holding
    go true holding = omega arith
    go false None = omega arith
    go false (Some k) = omega arith
idle_one h Ask.ReadMail g = omega arith
idle_one h (Ask.WriteRequest bit) g = omega arith
idle_one h Ask.ReadAcknowledge g = omega arith
idle_one h Ask.Other g = omega arith

idle_at : {M : Type 0} (h : Halves M) (g : Gram M) (b : Bool) → idle_gains h.out.holding ≤ idle_gains (if b then halves_answered h g.ask g else h).out.holding
idle_at h g true = idle_one h g.ask g
idle_at h g false = omega arith

idle_grows : {M : Type 0} (station : ℕ) (h : Halves M) (gs : List (Gram M)) → idle_gains h.out.holding ≤ idle_gains (halves_after station h gs).out.holding
idle_grows station h [] = omega arith
idle_grows station h (g ∷ gs) = omega (arith, idle_at h g (g.station == station), idle_grows station (if g.station == station then halves_answered h g.ask g else h) gs)

-- the row in hand
heard_more : {M Q R : Type 0} (x : Speech M Q R) (frame : ℕ) (ms : List M) (now : Option (Row M Q R)) → newest_gains now ≤ newest_gains (option_map (λ r. row_heard x frame ms r) now)
heard_more x frame ms None = omega arith
heard_more x frame ms (Some r) = omega (arith, length-append r.heard ms)

heard_by : {M Q R : Type 0} (x : Speech M Q R) (frame : ℕ) (ms : List M) (now : Option (Row M Q R)) (r : Row M Q R) → now ≡ Some r → newest_gains (option_map (λ k. row_heard x frame ms k) now) ≡ newest_gains now + length ms
heard_by x frame ms None r e = absurd (cc)
heard_by x frame ms (Some k) r e = omega (arith, length-append k.heard ms)

-- the state service
turn_grows : (R : Type 0) (target : ℕ) (phase : Phase) (state : ℕ) (refused : Option ℕ) → phase_gains phase ≤ progress_gains {R = R} (turn_progress (shown target phase state refused))
turn_grows R target Phase.Ask state refused = omega arith
turn_grows R target Phase.Await state None = go (state == target)
  where
    go : (b : Bool) → 2 ≤ progress_gains {R = R} (turn_progress (if b then Turn.Ends Outcome.Reached else Turn.Goes Phase.Await))
    go true = omega arith
    go false = omega arith
turn_grows R target Phase.Await state (Some code) = omega arith
turn_grows R target (Phase.Acknowledge state first) now refused = omega arith
turn_grows R target (Phase.Recover first) state None = omega arith
turn_grows R target (Phase.Recover first) state (Some code) = omega arith

word_grows : (R : Type 0) (stage : Stage) → stage_gains stage ≤ progress_gains {R = R} (word_done stage)
word_grows R Stage.Drains = omega arith
word_grows R (Stage.Goes Phase.Ask) = omega arith
word_grows R (Stage.Goes Phase.Await) = omega arith
word_grows R (Stage.Goes (Phase.Acknowledge state code)) = omega arith
word_grows R (Stage.Goes (Phase.Recover code)) = omega arith

found_grows : (R : Type 0) (target : ℕ) (stage : Stage) (found : Option Found) → stage_gains stage ≤ progress_gains {R = R} (found_done target stage found)
found_grows R target stage None = omega arith
found_grows R target Stage.Drains (Some (Found.Full true)) = omega arith
found_grows R target Stage.Drains (Some (Found.Full false)) = omega arith
found_grows R target Stage.Drains (Some (Found.State state refused)) = omega arith
found_grows R target (Stage.Goes phase) (Some (Found.Full full)) = omega arith
found_grows R target (Stage.Goes phase) (Some (Found.State state refused)) = turn_grows R target phase state refused

access_grows : (R : Type 0) (target : ℕ) (stage : Stage) (access : Access) (found : Option Found) → stage_gains stage ≤ progress_gains {R = R} (access_done target stage access found)
access_grows R target stage (Access.SetStation station) found = omega arith
access_grows R target stage (Access.SetFirst right) found = omega arith
access_grows R target stage (Access.SetSecond right) found = omega arith
access_grows R target stage (Access.SetControl word acknowledge) found = word_grows R stage
access_grows R target stage Access.ReadState found = found_grows R target stage found
access_grows R target stage Access.ReadFull found = found_grows R target stage found
access_grows R target stage Access.Elsewhere found = omega arith

by_progress : {Q R : Type 0} (frame : ℕ) (a : Account Q R) (duty : Duty) (p : Progress R) → a.hand ≡ Some duty → account_gains (account_by frame a duty p) ≡ changes_gains a.over + progress_gains p
by_progress frame a duty (Progress.On stage) e = refl
by_progress frame a duty (Progress.Over answer) e = omega (arith, changes_more a.over (record { target = duty.target; frame = duty.frame; answer = answer; completed = frame }))

met_grows : {M Q R : Type 0} (station frame : ℕ) (a : Account Q R) (hand : Option Duty) (d : Datagram M) → a.hand ≡ hand → account_gains a ≤ account_gains (account_met station frame a hand d)
met_grows station frame a None d e = omega arith
met_grows {M} {Q} {R} station frame a (Some duty) d e = go (is_for station d.address && not (d.counter == 0))
  where
    p : Progress R
    p = access_done duty.target duty.stage d.access d.found

    go : (b : Bool) → account_gains a ≤ account_gains (if b then account_by frame a duty p else a)
    go true = omega (arith, by_progress frame a duty p e, access_grows R duty.target duty.stage d.access d.found, ap duty_gains e)
    go false = omega arith

account_grows : {M Q R : Type 0} (station frame : ℕ) (a : Account Q R) (ds : List (Datagram M)) → account_gains a ≤ account_gains (account_back station frame a ds)
account_grows station frame a [] = omega arith
account_grows station frame a (d ∷ ds) = omega (arith, met_grows station frame a a.hand d refl, account_grows station frame (account_met station frame a a.hand d) ds)

-- a life that a state service returns to Init
reopens_same : {M Q R : Type 0} (l : Life M Q R) (hand : Option Duty) → gains (reopens l hand) ≡ gains l
reopens_same l None = refl
reopens_same l (Some duty) = at duty.target duty.stage
  where
    at : (target : ℕ) (stage : Stage) → gains (reopens_at l target stage) ≡ gains l
    at target Stage.Drains = refl
    at target (Stage.Goes phase) = by (returns_to_init target)
      where
        by : (b : Bool) → gains (if b then record l { stand = reopening (opens_state target) true } else l) ≡ gains l
        by true = refl
        by false = refl

opening_grows : {M Q R : Type 0} (frame : ℕ) (l : Life M Q R) (o : Opening) (done : Bool) (found : Option Found) → gains l ≤ gains (opening_back frame l o done found)
opening_grows {M} frame l o done found = go (shows_clear o) (done && is_shown 1 found) (o.step == last_step o) (done && is_shown o.state found)
  where
    idle : (holding : Option (LinkMail M)) → idle_gains holding ≤ 1
    idle None = omega arith
    idle (Some m) = omega arith

    go : (a b c d : Bool) → gains l ≤ gains (if a then (if b then clears frame l o else l) else if c then (if d then opens frame l else l) else steps_on l o)
    go true true c d = omega (arith, eras_more l.past l.era, idle l.era.side.halves.out.holding)
    go true false c d = omega arith
    go false b true true = omega arith
    go false b true false = omega arith
    go false b false d = omega arith

era_grows : {M Q R : Type 0} (x : Speech M Q R) (acknowledged : Q → Bool) (more : M → Bool) (passed : Q → Bool) (station frame : ℕ) (ns : List (News M)) (back : List (Datagram M)) (e : Era M Q R) →
    (let now = era_back x acknowledged more passed station frame ns back e in era_gains e + idle_gains e.side.halves.out.holding ≤ era_gains now + idle_gains now.side.halves.out.holding)
era_grows x acknowledged more passed station frame ns back e =
    omega (arith, idle_grows station e.side.halves (grams (own station back)), heard_more x frame (all_accepted station e.side.halves (grams (own station back))) e.side.now, account_grows station frame e.account (own station back))

pub back_grows : {M Q R : Type 0} (x : Speech M Q R) (acknowledged : Q → Bool) (more : M → Bool) (passed : Q → Bool) (frame : ℕ) (spot : Spot) (ns : List (News M)) (back : List (Datagram M)) (came : Option (Bool × Option Found)) (l : Life M Q R) (stand : Stand) →
    gains l ≤ gains (life_back x acknowledged more passed frame spot ns back came l stand)
back_grows x acknowledged more passed frame spot ns back None l (Stand.Opens o) = omega arith
back_grows x acknowledged more passed frame spot ns back (Some came) l (Stand.Opens o) = opening_grows frame l o came.0 came.1
back_grows x acknowledged more passed frame spot ns back came l Stand.Open =
    let e = era_back x acknowledged more passed spot.station frame ns back l.era in
    omega (arith, reopens_same (record l { era = e }) e.account.hand, era_grows x acknowledged more passed spot.station frame ns back l.era)
back_grows x acknowledged more passed frame spot ns back came l Stand.Gone = omega arith

-- ---- A LOST FRAME
idle_lost : {M : Type 0} (h : Halves M) (ask : Ask M) (b : Bool) → (if b then halves_lost h ask else h).out ≡ h.out
idle_lost h ask false = refl
idle_lost h (Ask.WriteMail m) true = refl
idle_lost h Ask.ReadMail true = refl
idle_lost h (Ask.WriteRequest bit) true = refl
idle_lost h Ask.ReadAcknowledge true = refl
idle_lost h Ask.Other true = refl

idle_without : {M : Type 0} (station : ℕ) (h : Halves M) (gs : List (Gram M)) → (halves_without station h gs).out ≡ h.out
idle_without station h [] = refl
idle_without station h (g ∷ gs) = idle_without station (if g.station == station then halves_lost h g.ask else h) gs ∙ idle_lost h g.ask (g.station == station)

pub lost_same : {M Q R : Type 0} (x : Speech M Q R) (acknowledged : Q → Bool) (more : M → Bool) (passed : Q → Bool) (spot : Spot) (ns : List (News M)) (sent : List (Datagram M)) (l : Life M Q R) (stand : Stand) → gains (life_lost x acknowledged more passed spot ns sent l stand) ≡ gains l
lost_same x acknowledged more passed spot ns sent l (Stand.Opens o) = refl
lost_same x acknowledged more passed spot ns sent l Stand.Gone = refl
lost_same x acknowledged more passed spot ns sent l Stand.Open = ap (λ z. eras_gains l.past + (era_gains l.era + idle_gains z.holding)) (idle_without spot.station l.era.side.halves (grams (own spot.station sent)))

-- ---- A VISIT THAT IS DONE
-- what a visit of one datagram brings, by parts
open_gains : {M Q R : Type 0} (x : Speech M Q R) (acknowledged : Q → Bool) (more : M → Bool) (passed : Q → Bool) (frame : ℕ) (spot : Spot) (ns : List (News M)) (back : List (Datagram M)) (came : Option (Bool × Option Found)) (l : Life M Q R) →
    suc (era_gains l.era + idle_gains l.era.side.halves.out.holding) ≤ (let now = era_back x acknowledged more passed spot.station frame ns back l.era in era_gains now + idle_gains now.side.halves.out.holding) →
    suc (gains l) ≤ gains (life_back x acknowledged more passed frame spot ns back came l Stand.Open)
open_gains x acknowledged more passed frame spot ns back came l more_than =
    let e = era_back x acknowledged more passed spot.station frame ns back l.era in
    omega (arith, reopens_same (record l { era = e }) e.account.hand, more_than)

own_after : {M : Type 0} (station : ℕ) (h : Halves M) (d : Datagram M) (ds : List (Datagram M)) → ds ≡ d ∷ [] → d.gram.station ≡ station → halves_after station h (grams ds) ≡ halves_answered h d.gram.ask d.gram
own_after station h d ds one is = ap (λ z. halves_after station h (grams z)) one ∙ ap (λ (z : Bool). if z then halves_answered h d.gram.ask d.gram else h) (eq-eqb d.gram.station station is)

pub written_gains : {M Q R : Type 0} (x : Speech M Q R) (acknowledged : Q → Bool) (more : M → Bool) (passed : Q → Bool) (frame : ℕ) (spot : Spot) (ns : List (News M)) (back : List (Datagram M)) (came : Option (Bool × Option Found)) (l : Life M Q R) (d : Datagram M) (held sent : LinkMail M) →
    own spot.station back ≡ d ∷ [] → d.gram.station ≡ spot.station → l.era.side.halves.out.holding ≡ Some held → d.gram.ask ≡ Ask.WriteMail sent → (d.gram.counter == 0) ≡ false →
    suc (gains l) ≤ gains (life_back x acknowledged more passed frame spot ns back came l Stand.Open)
written_gains x acknowledged more passed frame spot ns back came l d held sent one is holds asks met =
    let h = l.era.side.halves in
    let station = spot.station in
    let now : (halves_after station h (grams (own station back))).out.holding ≡ None = ap (λ z. z.out.holding) (own_after station h d (own station back) one is) ∙ ap (λ z. (halves_answered h z d.gram).out.holding) asks ∙ ap (λ (z : Bool). (if z then h.out else record h.out { holding = None }).holding) met in
    open_gains x acknowledged more passed frame spot ns back came l (omega (arith, ap idle_gains holds, ap idle_gains now, heard_more x frame (all_accepted station h (grams (own station back))) l.era.side.now, account_grows station frame l.era.account (own station back)))

pub heard_gains : {M Q R : Type 0} (x : Speech M Q R) (acknowledged : Q → Bool) (more : M → Bool) (passed : Q → Bool) (frame : ℕ) (spot : Spot) (ns : List (News M)) (back : List (Datagram M)) (came : Option (Bool × Option Found)) (l : Life M Q R) (r : Row M Q R) →
    l.era.side.now ≡ Some r → 1 ≤ length (all_accepted spot.station l.era.side.halves (grams (own spot.station back))) →
    suc (gains l) ≤ gains (life_back x acknowledged more passed frame spot ns back came l Stand.Open)
heard_gains x acknowledged more passed frame spot ns back came l r is some =
    let h = l.era.side.halves in
    let station = spot.station in
    open_gains x acknowledged more passed frame spot ns back came l (omega (arith, some, idle_grows station h (grams (own station back)), heard_by x frame (all_accepted station h (grams (own station back))) l.era.side.now r is, account_grows station frame l.era.account (own station back)))

pub state_gains : {M Q R : Type 0} (x : Speech M Q R) (acknowledged : Q → Bool) (more : M → Bool) (passed : Q → Bool) (frame : ℕ) (spot : Spot) (ns : List (News M)) (back : List (Datagram M)) (came : Option (Bool × Option Found)) (l : Life M Q R) (d : Datagram M) (duty : Duty) →
    own spot.station back ≡ d ∷ [] → l.era.account.hand ≡ Some duty → is_for spot.station d.address ≡ true → (d.counter == 0) ≡ false → suc (stage_gains duty.stage) ≤ progress_gains {R = R} (access_done duty.target duty.stage d.access d.found) →
    suc (gains l) ≤ gains (life_back x acknowledged more passed frame spot ns back came l Stand.Open)
state_gains {M} {Q} {R} x acknowledged more passed frame spot ns back came l d duty one hand is met steps =
    let h = l.era.side.halves in
    let a = l.era.account in
    let station = spot.station in
    let p : Progress R = access_done duty.target duty.stage d.access d.found in
    let now : account_back station frame a (own station back) ≡ account_by frame a duty p =
    ap (λ z. account_back station frame a z) one ∙ ap (λ z. account_met station frame a z d) hand ∙ ap (λ (z : Bool). if z then account_by frame a duty p else a) ((λ i. is i && not (met i))) in
    open_gains x acknowledged more passed frame spot ns back came l (omega (arith, steps, ap account_gains now, by_progress frame a duty p hand, ap duty_gains hand, idle_grows station h (grams (own station back)), heard_more x frame (all_accepted station h (grams (own station back))) l.era.side.now))
