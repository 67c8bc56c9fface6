-- A state service goes on by each visit behind a step, so none is counted in vain.
use Rattle.std.proofs.Common.{◌≡◌, ◌≤◌, ℕ, suc, ◌%◌, ◌==◌, Bool, true, false, Option, Some, None, List, [], ◌∷◌, ◌++◌, refl, sym, ap, ◌∙◌, subst, arith, if◌then◌else◌, ◌⊎◌, inl, inr}
use Rattle.std.specs.Prelude.{◌&&◌, not}
use Rattle.plan_ring.specs.of_exchange_model.Exchange.{Speech}
use Rattle.plan_ring.specs.of_life_model.Gains.{gains, phase_gains, stage_gains, progress_gains}
use Rattle.plan_ring.proofs.of_life_model.Gaining.{next_same, state_gains}
use Rattle.plan_ring.specs.of_life_model.Lives.{Era, Life, Spot, Stand, life_next, life_back, era_back, reopens, reopens_at, reopening, opens_state, returns_to_init, granted}
use Rattle.plan_ring.specs.of_life_model.Own.{own}
use Rattle.plan_ring.specs.of_run_frames.Clocks.{Clocked}
use Rattle.plan_ring.specs.of_run_frames.Goes.{Under, back_life}
use Rattle.plan_ring.specs.of_run_frames.Waits.{Waits, waits_on}
use Rattle.plan_ring.specs.of_segment_model.Ends.{Outcome}
use Rattle.plan_ring.specs.of_segment_model.Record.{News}
use Rattle.plan_ring.specs.of_segment_model.Seats.{Side}
use Rattle.plan_ring.specs.of_segment_model.Slaves.{Registers, Datagram, Access, Found}
use Rattle.plan_ring.specs.of_state_model.Stated.{Service}
use Rattle.plan_ring.specs.of_state_model.States.{Table, Phase, States, Event, Turn, happens, reads, shown, run, carry, phase_written}
use Rattle.plan_ring.specs.of_state_model.Accounts.{Account, Duty, Stage, Pick, Progress, account_begins, account_back, account_met, account_by, access_done, phase_access, turn_progress}
use Rattle.idle_slaves.specs.Going.{IsCome, Going, AccessCame, AccessVain, registers_on}
use Rattle.idle_slaves.specs.Phases.{IsSeen, HandSeen, TakesOn, idle_states}
use Rattle.idle_slaves.proofs.Phases.{behind_step, takes_on}

-- ---- THE REGISTERS behind a step
run_more : {M R : Type 0} (table : Table) (w : States M R) (es : List Event) → run table w (es ++ Event.Step ∷ []) ≡ happens table (run table w es) Event.Step
run_more table w [] = refl
run_more table w (e ∷ es) = run_more table (happens table w e) es

come_step : (M R : Type 0) (table : Table) (target : ℕ) (phase : Phase) (r : Registers) → IsCome M R table target phase r → IsCome M R table target phase (carry table r)
come_step M R table target phase r c =
    let more = run_more table (idle_states {M = M} {R = R} c.first) c.events in
    record {
      start = c.start;
      sits = c.sits;
      first = c.first;
      rests = c.rests;
      events = c.events ++ Event.Step ∷ [];
      hand = c.hand;
      is = ap (λ z. z.hand) more ∙ c.is;
      target_is = c.target_is;
      phase_is = c.phase_is;
      registers = ap (λ z. z.registers) more ∙ ap (carry table) c.registers;
    }

seen_step : (M R : Type 0) (table : Table) (target : ℕ) (phase : Phase) (r : Registers) → IsCome M R table target phase r → IsSeen target phase (carry table r)
seen_step M R table target phase r c =
    let all = behind_step M R table c.start c.sits c.first c.rests c.events in
    let one : HandSeen (Some c.hand) (carry table (run table (idle_states {M = M} {R = R} c.first) c.events).registers) = subst (λ h. HandSeen h (carry table (run table (idle_states {M = M} {R = R} c.first) c.events).registers)) c.is all in
    subst (λ z. IsSeen target phase (carry table z)) c.registers (subst (λ p. IsSeen target p (carry table (run table (idle_states {M = M} {R = R} c.first) c.events).registers)) c.phase_is
    (subst (λ n. IsSeen n c.hand.phase (carry table (run table (idle_states {M = M} {R = R} c.first) c.events).registers)) c.target_is one))

-- ---- WHAT THE ACCESS MAKES OF THE SERVICE
abbrev Made : (R M : Type 0) → Duty → Datagram M → Progress R
Made R M duty d = access_done {R = R} duty.target duty.stage d.access d.found

read_made : (R : Type 0) (target : ℕ) (phase : Phase) (found : Option Found) (r : Registers) → reads phase ≡ true → found ≡ Some (Found.State r.state r.refused) →
    access_done {R = R} target (Stage.Goes phase) (phase_access target phase) found ≡ turn_progress (shown target phase r.state r.refused)
read_made R target Phase.Ask found r e f = absurd (cc)
read_made R target Phase.Await found r e f = ap (λ z. access_done {R = R} target (Stage.Goes Phase.Await) Access.ReadState z) f
read_made R target (Phase.Acknowledge state code) found r e f = absurd (cc)
read_made R target (Phase.Recover code) found r e f = ap (λ z. access_done {R = R} target (Stage.Goes (Phase.Recover code)) Access.ReadState z) f

word_made : (R : Type 0) (target : ℕ) (phase : Phase) (found : Option Found) → reads phase ≡ false → access_done {R = R} target (Stage.Goes phase) (phase_access target phase) found ≡ Progress.On (Stage.Goes (phase_written phase))
word_made R target Phase.Ask found e = refl
word_made R target Phase.Await found e = absurd (cc)
word_made R target (Phase.Acknowledge state code) found e = refl
word_made R target (Phase.Recover code) found e = absurd (cc)

-- a status leaves the phase, or gains
shown_or : (R : Type 0) (target : ℕ) (phase : Phase) (state : ℕ) (refused : Option ℕ) → reads phase ≡ true →
    (turn_progress {R = R} (shown target phase state refused) ≡ Progress.On (Stage.Goes phase)) ⊎ (suc (phase_gains phase) ≤ progress_gains {R = R} (turn_progress (shown target phase state refused)))
shown_or R target Phase.Ask state refused e = absurd (cc)
shown_or R target Phase.Await state None e = go (state == target)
  where
    go : (b : Bool) → (turn_progress {R = R} (if b then Turn.Ends Outcome.Reached else Turn.Goes Phase.Await) ≡ Progress.On (Stage.Goes Phase.Await)) ⊎ (3 ≤ progress_gains {R = R} (turn_progress (if b then Turn.Ends Outcome.Reached else Turn.Goes Phase.Await)))
    go true = inr (omega arith)
    go false = inl refl
shown_or R target Phase.Await state (Some code) e = inr (omega arith)
shown_or R target (Phase.Acknowledge s code) state refused e = absurd (cc)
shown_or R target (Phase.Recover first) state None e = inr (omega arith)
shown_or R target (Phase.Recover first) state (Some code) e = inl refl

not_less : {X : Type 0} (a b : ℕ) → suc a ≤ b → b ≤ a → X
not_less a b le more = absurd (omega (arith, le, more))

-- ---- A LIFE whose service goes on
begins_same : {M Q R : Type 0} (x : Speech M Q R) (acknowledged : Q → Bool) (frame : ℕ) (d : Side M Q R) (a : Account Q R) (duty : Duty) (begin : Option (Service Q)) → account_begins x acknowledged frame d a (Some duty) begin ≡ a
begins_same x acknowledged frame d a duty None = refl
begins_same x acknowledged frame d a duty (Some wish) = refl

next_hand : {M Q R : Type 0} (x : Speech M Q R) (acknowledged : Q → Bool) (more : M → Bool) (passed : Q → Bool) (frame : ℕ) (l : Life M Q R) (duty : Duty) (pick : Pick Q) → l.era.account.hand ≡ Some duty → (life_next x acknowledged more passed frame l Stand.Open pick).era.account ≡ l.era.account
next_hand x acknowledged more passed frame l duty pick e =
    let p = granted l.era.passing pick in
    ap (λ z. account_begins x acknowledged frame l.era.side l.era.account z p.begin) e ∙ begins_same x acknowledged frame l.era.side l.era.account duty p.begin

stays_open : {M Q R : Type 0} (k : Life M Q R) (duty : Duty) (phase : Phase) → returns_to_init duty.target ≡ false → reopens_at k duty.target (Stage.Goes phase) ≡ k
stays_open k duty phase e = ap (λ (b : Bool). if b then record k { stand = reopening (opens_state duty.target) true } else k) e

-- behind a frame by which its hand stays
pub record Stays {M Q R : Type 0} (k : Life M Q R) (duty : Duty) (phase : Phase) : Type 0 where
  pub stands : k.stand ≡ Stand.Open
  pub hand : k.era.account.hand ≡ Some (record duty { stage = Stage.Goes phase })

module _ {M Q R : Type 0} (x : Speech M Q R) (acknowledged : Q → Bool) (more : M → Bool) (passed : Q → Bool) (frame : ℕ) (spot : Spot) (ns : List (News M)) (back : List (Datagram M)) (came : Option (Bool × Option Found)) (l : Life M Q R) (duty : Duty) (phase : Phase)
    (stands : l.stand ≡ Stand.Open) (hand : l.era.account.hand ≡ Some duty) (stage : duty.stage ≡ Stage.Goes phase) (stays : returns_to_init duty.target ≡ false) where
  abbrev era : Era M Q R
  era = era_back x acknowledged more passed spot.station frame ns back l.era

  abbrev on : Life M Q R
  on = life_back x acknowledged more passed frame spot ns back came l Stand.Open

  same_by : era.account.hand ≡ Some (record duty { stage = Stage.Goes phase }) → Stays on duty phase
  same_by e =
      let is : on ≡ record l { era = era } = ap (λ z. reopens (record l { era = era }) z) e ∙ stays_open (record l { era = era }) duty phase stays in
      record { stands = ap (λ z. z.stand) is ∙ stands; hand = ap (λ z. z.era.account.hand) is ∙ e }

  old : l.era.account.hand ≡ Some (record duty { stage = Stage.Goes phase })
  old = hand ∙ ap (λ s. Some (record duty { stage = s })) stage

  pub same_none : own spot.station back ≡ [] → Stays on duty phase
  same_none none = same_by (ap (λ z. (account_back spot.station frame l.era.account z).hand) none ∙ old)

  module _ (r : Registers) (same : gains on ≡ gains l) (c : AccessCame spot.station duty phase r back) where
    abbrev d : Datagram M
    d = c.datagram

    abbrev made : Progress R
    made = Made R M duty d

    made_is : made ≡ access_done {R = R} duty.target (Stage.Goes phase) (phase_access duty.target phase) d.found
    made_is = ap (λ z. access_done {R = R} duty.target z d.access d.found) stage ∙ ap (λ z. access_done {R = R} duty.target (Stage.Goes phase) z d.found) c.access

    -- it gained nothing
    no_gain : {X : Type 0} → suc (phase_gains phase) ≤ progress_gains made → X
    no_gain le = not_less (gains l) (gains on) (state_gains x acknowledged more passed frame spot ns back came l d duty c.one hand c.address c.met (omega (arith, le, ap stage_gains stage))) (omega (arith, same))

    pub not_seen : {X : Type 0} → IsSeen duty.target phase r → X
    not_seen {X} seen = go (reads phase) refl
      where
        on_by : TakesOn R duty.target phase r
        on_by = takes_on R duty.target phase r seen

        go : (b : Bool) → reads phase ≡ b → X
        go true e = no_gain (omega (arith, on_by.status e, ap progress_gains (made_is ∙ read_made R duty.target phase d.found r e (c.found e))))
        go false e = no_gain (omega (arith, on_by.word e, ap progress_gains (made_is ∙ word_made R duty.target phase d.found e)))

    word_gains : (p : Phase) → reads p ≡ false → suc (phase_gains p) ≤ phase_gains (phase_written p)
    word_gains Phase.Ask e = omega arith
    word_gains Phase.Await e = absurd (cc)
    word_gains (Phase.Acknowledge state code) e = omega arith
    word_gains (Phase.Recover code) e = absurd (cc)

    stays_made : made ≡ Progress.On (Stage.Goes phase)
    stays_made = go (reads phase) refl
      where
        go : (b : Bool) → reads phase ≡ b → made ≡ Progress.On (Stage.Goes phase)
        go true e =
            let is : made ≡ turn_progress (shown duty.target phase r.state r.refused) = made_is ∙ read_made R duty.target phase d.found r e (c.found e) in
            elim (shown_or R duty.target phase r.state r.refused e) [ inl stay ↦ is ∙ stay | inr le ↦ no_gain (omega (arith, le, ap progress_gains is)) ]
        go false e = no_gain (omega (arith, word_gains phase e, ap progress_gains (made_is ∙ word_made R duty.target phase d.found e)))

    pub same_met : Stays on duty phase
    same_met = same_by (
        ap (λ z. (account_back spot.station frame l.era.account z).hand) c.one ∙ ap (λ z. (account_met spot.station frame l.era.account z d).hand) hand
        ∙ ap (λ (z : Bool). (if z && not (d.counter == 0) then account_by frame l.era.account duty made else l.era.account).hand) c.address
        ∙ ap (λ (z : Bool). (if not z then account_by frame l.era.account duty made else l.era.account).hand) c.met
        ∙ ap (λ p. (account_by frame l.era.account duty p).hand) stays_made)

-- ---- A FRAME OF A RUN
module _ {M Q R : Type 0} (table : Table) (x : Spot → Speech M Q R) (acknowledged : Q → Bool) (more : M → Bool) (passed : Q → Bool) (number : ℕ) (back : List (Datagram M)) (a : Clocked M Q R) (u : Under M Q R) (r : Registers) (t : Waits)
    (g : Going table a.life r t) (i : AccessVain x acknowledged more passed number back a u g.duty g.phase r) where
  abbrev behind : Life M Q R
  behind = back_life x acknowledged more passed number back a u

  abbrev next : Life M Q R
  next = life_next (x a.spot) acknowledged more passed number a.life Stand.Open i.pick

  life_is : u.life ≡ next
  life_is = i.life ∙ ap (λ s. life_next (x a.spot) acknowledged more passed number a.life s i.pick) g.stands

  stands : u.life.stand ≡ Stand.Open
  stands = ap (λ z. z.stand) life_is ∙ g.stands

  hand : u.life.era.account.hand ≡ Some g.duty
  hand = ap (λ z. z.era.account.hand) life_is ∙ ap (λ z. z.hand) (next_hand (x a.spot) acknowledged more passed number a.life g.duty i.pick g.hand) ∙ g.hand

  abbrev open_behind : Life M Q R
  open_behind = life_back (x a.spot) acknowledged more passed number a.spot u.news back u.came u.life Stand.Open

  behind_is : behind ≡ open_behind
  behind_is = ap (λ s. life_back (x a.spot) acknowledged more passed number a.spot u.news back u.came u.life s) stands

  same : gains open_behind ≡ gains u.life
  same = sym (ap gains behind_is) ∙ i.same ∙ sym (next_same (x a.spot) acknowledged more passed number a.life a.life.stand i.pick) ∙ ap gains (sym i.life)

  left : (b : Bool) → u.under ≡ b → Stays open_behind g.duty g.phase
  left true e = same_met (x a.spot) acknowledged more passed number a.spot u.news back u.came u.life g.duty g.phase stands hand g.stage g.stays r same (i.visits e)
  left false e = same_none (x a.spot) acknowledged more passed number a.spot u.news back u.came u.life g.duty g.phase stands hand g.stage g.stays (i.none e)

  counted : (b c : Bool) → u.under ≡ b → t.stepped ≡ c → (if b && c then suc t.tries else t.tries) ≡ 0
  counted true true e f = not_seen (x a.spot) acknowledged more passed number a.spot u.news back u.came u.life g.duty g.phase stands hand g.stage g.stays r same (i.visits e) (g.seen f)
  counted true false e f = g.tries
  counted false c e f = g.tries

  come : (b : Bool) → IsCome M R table g.duty.target g.phase (if b then carry table r else r)
  come true = come_step M R table g.duty.target g.phase r g.come
  come false = g.come

  seen : (b : Bool) → (if b then true else t.stepped) ≡ true → IsSeen g.duty.target g.phase (if b then carry table r else r)
  seen true e = seen_step M R table g.duty.target g.phase r g.come
  seen false e = g.seen e

  pub goes_so : Going table behind (registers_on table number a r) (waits_on number a u t)
  goes_so =
      let k = left u.under refl in
      record {
        stands = ap (λ z. z.stand) behind_is ∙ k.stands;
        duty = record g.duty { stage = Stage.Goes g.phase };
        hand = ap (λ z. z.era.account.hand) behind_is ∙ k.hand;
        phase = g.phase;
        stage = refl;
        stays = g.stays;
        come = come (suc number % a.pace == 0);
        seen = seen (suc number % a.pace == 0);
        tries = counted u.under t.stepped refl refl;
      }
