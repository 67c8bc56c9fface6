-- Behind a write in vain.
use Rattle.std.proofs.Common.{◌≡◌, ◌≤◌, ℕ, ◌==◌, Bool, true, false, is_some, Option, Some, None, List, [], ◌∷◌, ◌++◌, refl, sym, ap, ◌∙◌, subst, arith, if◌then◌else◌, inl, inr, length, length-append}
use Rattle.plan_ring.specs.of_slave_model.Moments.{IsFree, HeldStill}
use Rattle.plan_ring.proofs.of_slave_model.Laws.{state}
use Rattle.plan_ring.specs.of_exchange_model.Exchange.{Speech}
use Rattle.idle_slaves.specs.Held.{HeldUp, EndsHeld}
use Rattle.idle_slaves.specs.Visited.{IsFor, Meets, CameBack, HasRow, IsStill, IsUnpaused, Chosen, is_boxed, visit_for, life_visit, memory_of}
use Rattle.idle_slaves.specs.Waiting.{Wanted, Memory, link_by, wanted_by, memory_behind, tried}
use Rattle.idle_slaves.proofs.Returning.{IsVainly, reopens_era, vainly}
use Rattle.idle_slaves.proofs.Visited.{full_drains}
use Rattle.idle_slaves.proofs.Waiting.{Holds, Comes, comes, holds}
use Rattle.plan_ring.specs.of_life_model.Gains.{gains}
use Rattle.plan_ring.specs.of_life_model.Visits.{Visit, mails_visit}
use Rattle.plan_ring.specs.of_life_model.Lives.{Era, Life, Spot, Stand, granted, life_back, era_back, era_next}
use Rattle.plan_ring.specs.of_life_model.Own.{own}
use Rattle.plan_ring.specs.of_link_model.Frames.{Ask, halves_accept, all_accepted}
use Rattle.plan_ring.specs.of_link_model.Link.{Halves, Link}
use Rattle.plan_ring.specs.of_link_model.Mails.{LinkMail}
use Rattle.plan_ring.specs.of_link_model.Master.{InState}
use Rattle.plan_ring.specs.of_link_model.Slave.{Node, Server}
use Rattle.plan_ring.specs.of_run_frames.Waits.{Waits}
use Rattle.plan_ring.specs.of_segment_model.Ends.{Passing}
use Rattle.plan_ring.specs.of_segment_model.Record.{News}
use Rattle.plan_ring.specs.of_segment_model.Seats.{side_back}
use Rattle.plan_ring.specs.of_segment_model.Slaves.{Datagram, Found, grams}
use Rattle.plan_ring.specs.of_state_model.Stated.{Service}
use Rattle.plan_ring.specs.of_state_model.Accounts.{Duty, Pick, account_next, starts}

-- one that drains before the visit does behind it
drains_on : {X : Type 0} (q : Wanted) (old new : Option Duty) (p s : Option Passing) (duty : Duty) → IsFor q old p → IsFor q new s → s ≡ None → old ≡ Some duty → new ≡ None → X
drains_on Wanted.Mails old new p s duty f g unpassed e none = absurd (let no : None ≡ Some duty = sym f.0 ∙ e in cc)
drains_on Wanted.Drains old new p s duty f (inl (other, is, stage)) unpassed e none = absurd (let no : Some other ≡ None = sym is ∙ none in cc)
drains_on Wanted.Drains old new p s duty f (inr (hand, boxed)) unpassed e none = absurd (let no : false ≡ true = sym (ap is_boxed unpassed) ∙ boxed in cc)

-- a write brings no mail
none_accepted : {M : Type 0} (station : ℕ) (h : Halves M) (d : Datagram M) (ds : List (Datagram M)) (m : LinkMail M) → ds ≡ d ∷ [] → d.gram.ask ≡ Ask.WriteMail m → all_accepted station h (grams ds) ≡ []
none_accepted {M} station h d ds m one ask = ap (λ z. all_accepted station h (grams z)) one ∙ go (d.gram.station == station)
  where
    go : (b : Bool) → (if b then halves_accept h d.gram.ask d.gram else []) ++ [] ≡ []
    go true = ap (λ z. halves_accept h z d.gram ++ []) ask
    go false = refl

module _ {M Q R : Type 0} (x : Speech M Q R) (acknowledged : Q → Bool) (more : M → Bool) (passed : Q → Bool) (frame : ℕ) (spot : Spot) (ns : List (News M)) (back : List (Datagram M)) (came : Option (Bool × Option Found)) (l : Life M Q R) where
  abbrev k : Life M Q R
  k = life_back x acknowledged more passed frame spot ns back came l Stand.Open

  pub side_is : k.era.side ≡ side_back x frame spot.station (own spot.station back) l.era.side
  side_is = let e = era_back x acknowledged more passed spot.station frame ns back l.era in ap (λ (z : Era M Q R). z.side) (reopens_era (record l { era = e }) e.account.hand)

  module _ {S : Type 0} (v : Server M S) (old : Life M Q R) (n : Node M S) (m : Memory) (t : Waits) (Left : Type 0) (c : Chosen v old l n m t) (row : HasRow l n) (b : CameBack spot.station n l.era.side.halves (life_visit l (memory_of old l m)) back)
      (same : gains k ≡ gains l) (still : IsStill t.stepped n (life_visit l (memory_of old l m)) ns l k) (ends : EndsHeld x acknowledged Left spot.station back l k) where
    abbrev u : Link M S
    u = link_by v c.link c.coming

    abbrev q : Wanted
    q = wanted_by c.wanted c.coming

    abbrev mem : Memory
    mem = memory_of old l m

    abbrev visit : Visit
    visit = life_visit l mem

    link : Holds v c.link c.wanted m t
    link = holds v c.link c.wanted m t c.waits

    come : Comes c.link u
    come = comes v c.link c.coming link.agrees

    clear : u.halves.inn.state ≡ InState.Clear
    clear = ap (λ z. z.state) come.inn ∙ link.clear

    vain : IsVainly l k n u visit q b.datagram.gram.ask
    vain = vainly x acknowledged more passed frame spot ns back came l c.shows.stands q n u c.shows.halves c.shows.node come.agrees (ap (λ (h : Halves M). h.inn.state) (sym c.shows.halves) ∙ clear) row c.shows.hand same still.same t.stepped visit
        (full_drains q l.era.account.hand l.era.passing mem (is_some l.era.side.halves.out.holding) c.shows.hand) still b

    -- a read pauses nothing
    read_none : {X : Type 0} (z : Visit) → visit ≡ z → z ≡ Visit.Read → (memory_behind mem visit).paused ≡ true → X
    read_none z e f paused = absurd (let no : false ≡ true = sym (ap (λ w. (memory_behind mem w).paused) (e ∙ f)) ∙ paused in cc)

    -- a write holds the mail
    write_held : visit ≡ Visit.Write → HeldStill spot.station (own spot.station back) l.era.side k.era.side
    write_held e =
        let w = subst (λ z. Meets n l.era.side.halves z b.datagram) e b.meets in
        record {
          nothing = none_accepted spot.station l.era.side.halves b.datagram (own spot.station back) w.0 b.one w.2;
          held = λ none. (let no : Some w.0 ≡ None = sym w.1 ∙ ap (λ (h : Halves M). h.out.holding) (sym vain.halves) ∙ none in cc);
        }

    by_held : (p : Bool) (holding : Option (LinkMail M)) → visit ≡ mails_visit p (is_some holding) → l.era.account.hand ≡ None → l.era.passing ≡ None → (memory_behind mem visit).paused ≡ true → IsFree x acknowledged k.era.side → Left
    by_held true holding e hand unpassed paused free = read_none (mails_visit true (is_some holding)) e refl paused
    by_held false None e hand unpassed paused free = read_none (mails_visit false false) e refl paused
    by_held false (Some z) e hand unpassed paused free = ends hand unpassed (write_held e) free

    by_hand : (h : Option Duty) → l.era.account.hand ≡ h → (memory_behind mem visit).paused ≡ true → k.era.account.hand ≡ None → k.era.passing ≡ None → IsFree x acknowledged k.era.side → Left
    by_hand None e paused none unpassed free =
        let before : l.era.passing ≡ None = sym still.same ∙ unpassed in
        let visits : visit ≡ mails_visit mem.paused (is_some l.era.side.halves.out.holding) =
        ap (λ z. visit_for z l.era.passing mem (is_some l.era.side.halves.out.holding)) e ∙ ap (λ p. visit_for None p mem (is_some l.era.side.halves.out.holding)) before in
        by_held mem.paused l.era.side.halves.out.holding visits e before paused free
    by_hand (Some duty) e paused none unpassed free = drains_on q l.era.account.hand k.era.account.hand l.era.passing k.era.passing duty c.shows.hand vain.hand unpassed e none

    pub held_up : HeldUp x acknowledged Left k (memory_behind mem visit) (tried t)
    held_up = λ one paused none unpassed free. by_hand l.era.account.hand refl paused none unpassed free

-- ---- WHAT COMES INTO HAND
-- a service comes into hand only where no mail that is passed on is
pub took_unpassed : {M Q R : Type 0} (x : Speech M Q R) (acknowledged : Q → Bool) (more : M → Bool) (passed : Q → Bool) (frame : ℕ) (e : Era M Q R) (pick : Pick Q) (w : Service Q) → (era_next x acknowledged more passed frame e pick).account.started ≡ starts e.account w frame → e.passing ≡ None
took_unpassed {M} {Q} {R} x acknowledged more passed frame e pick w took = go e.passing took
  where
    go : (p : Option Passing) → (account_next x acknowledged frame e.side e.account (granted p pick)).started ≡ starts e.account w frame → p ≡ None
    go None same = refl
    go (Some p) same = absurd (omega (arith, ap length same, length-append e.account.started (record { service = w; frame = frame } ∷ [])))

pub unpaused : {M Q R : Type 0} (x : Speech M Q R) (acknowledged : Q → Bool) (more : M → Bool) (passed : Q → Bool) (frame : ℕ) (l : Life M Q R) (m : Memory) (t : Waits) (pick : Pick Q) (Left : Type 0) → HeldUp x acknowledged Left l m t →
    ((target : ℕ) → pick.begin ≡ Some (Service.State target) → ((era_next x acknowledged more passed frame l.era pick).account.started ≡ starts l.era.account (Service.State target) frame) × (Left → ⊥)) → IsUnpaused pick m t
unpaused x acknowledged more passed frame l m t pick Left held began = λ target wish one. go target wish one m.paused refl
  where
    go : (target : ℕ) → pick.begin ≡ Some (Service.State target) → 1 ≤ t.tries → (p : Bool) → m.paused ≡ p → p ≡ false
    go target wish one false e = refl
    go target wish one true e =
        let k = began target wish in
        let unpassed = took_unpassed x acknowledged more passed frame l.era pick (Service.State target) k.0 in
        let might = state x acknowledged more passed l.era frame pick target unpassed wish k.0 in
        absurd (k.1 (held one e might.0 unpassed might.1))
