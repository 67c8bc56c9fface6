-- Behind a step the status stands that a state service awaits.
use Rattle.std.proofs.Common.{◌≡◌, ◌⊎◌, ◌≤◌, ℕ, suc, ◌==◌, Bool, true, false, Option, Some, None, List, [], ◌∷◌, refl, sym, ap, ◌∙◌, subst, arith, if◌then◌else◌, inl, inr, eq-eqb}
use Rattle.plan_ring.specs.of_life_model.Gains.{phase_gains, progress_gains}
use Rattle.plan_ring.specs.of_link_model.Link.{Fate}
use Rattle.plan_ring.specs.of_segment_model.Ends.{Outcome}
use Rattle.plan_ring.specs.of_segment_model.Record.{News}
use Rattle.plan_ring.specs.of_segment_model.Slaves.{Registers}
use Rattle.plan_ring.specs.of_state_model.Promises.{IsTable, state_closed}
use Rattle.plan_ring.specs.of_state_model.States.{Table, Phase, Hand, States, Event, Turn, happens, run, begins, writes, looks, returned, turned, shown, reads, word_of, word_met, phase_written, carry, word_carried, decided}
use Rattle.plan_ring.proofs.of_state_model.Kept.{HoldsAt, happens_holds}
use Rattle.plan_ring.proofs.of_state_model.Words.{Flag, Cleared, InHand, Kept}
use Rattle.plan_ring.specs.of_state_model.Accounts.{turn_progress}
use Rattle.idle_slaves.specs.Phases.{IsSeen, IsLed, HandLed, HandSeen, Rests, TakesOn, idle_states}

module _ (table : Table) where
  -- ---- A STEP
  same : (s : ℕ) → table s s ≡ None → (r : Registers) (target : ℕ) → r.state ≡ s → target ≡ s → table r.state target ≡ None
  same s sits r target e f = ap (λ a. table a target) e ∙ ap (table s) f ∙ sits

  -- its word is carried out, or refused
  await_decided : (r : Registers) (t word : ℕ) (v : Option ℕ) → word ≡ t → IsSeen t Phase.Await (decided r word v)
  await_decided r t word None e = λ none. e
  await_decided r t word (Some code) e = λ none. absurd (let no : Some code ≡ None = none in cc)

  await_led : (r : Registers) (t : ℕ) (refused : Option ℕ) (control : Option (ℕ × Bool)) → r.refused ≡ refused → control ≡ Some (t, false) → IsSeen t Phase.Await (word_carried table r refused control)
  await_led r t refused None e f = absurd (cc)
  await_led r t None (Some word) e f = await_decided r t word.0 (table r.state word.0) (let both : Some word ≡ Some (t, false) = f in ap (λ z. z.0) (the_word word t false both))
    where
      the_word : (word : ℕ × Bool) (t : ℕ) (b : Bool) → Some word ≡ Some (t, b) → word ≡ (t, b)
      the_word word t b e = cc
  await_led r t (Some code) (Some word) e f =
      let ignored : word.1 ≡ false = (let both : Some word ≡ Some (t, false) = f in let is : word ≡ (t, false) = cc in ap (λ z. z.1) is) in
      subst (λ b. IsSeen t Phase.Await (if b then decided r word.0 (table r.state word.0) else record r { control = None })) (sym ignored) (λ none. absurd (let no : Some code ≡ None = sym e ∙ none in cc))

  await_seen : (s t : ℕ) (r : Registers) (refused : Option ℕ) (control : Option (ℕ × Bool)) → r.refused ≡ refused → r.control ≡ control → InHand table s t Phase.Await r → IsSeen t Phase.Await r → IsSeen t Phase.Await (word_carried table r refused control)
  await_seen s t r refused None e f k seen = seen
  await_seen s t r None (Some word) e f (inl k) seen = await_decided r t word.0 (table r.state word.0) (asks (k.word word f))
    where
      asks : (word.0 ≡ s) ⊎ (word.0 ≡ t) → word.0 ≡ t
      asks (inl w) = w ∙ sym k.state ∙ seen e
      asks (inr w) = w
  await_seen s t r None (Some word) e f (inr (inl k)) seen = await_decided r t word.0 (table r.state word.0) (k.word word f)
  await_seen s t r None (Some word) e f (inr (inr k)) seen = absurd (let no : None ≡ Some k.code = sym e ∙ k.refused in cc)
  await_seen s t r (Some code) (Some word) e f (inl k) seen = absurd (let no : Some code ≡ None = sym e ∙ k.refused in cc)
  await_seen s t r (Some code) (Some word) e f (inr (inl k)) seen = absurd (let no : Some code ≡ None = sym e ∙ k.refused in cc)
  await_seen s t r (Some code) (Some word) e f (inr (inr k)) seen =
      subst (λ b. IsSeen t Phase.Await (if b then decided r word.0 (table r.state word.0) else record r { control = None })) (sym (k.word word f)) (λ none. absurd (let no : Some code ≡ None = sym e ∙ none in cc))

  -- the acknowledge
  gone : (r : Registers) (word : ℕ) (v : Option ℕ) → v ≡ None → (decided r word v).refused ≡ None
  gone r word None e = refl
  gone r word (Some code) e = absurd (cc)

  recover_led : (s t first : ℕ) → table s s ≡ None → (r : Registers) (refused : Option ℕ) (control : Option (ℕ × Bool)) → r.state ≡ s → control ≡ Some (r.state, true) → (word_carried table r refused control).refused ≡ None
  recover_led s t first sits r refused None e f = absurd (cc)
  recover_led s t first sits r None (Some word) e f =
      let is : word ≡ (r.state, true) = (let both : Some word ≡ Some (r.state, true) = f in cc) in
      gone r word.0 (table r.state word.0) (same s sits r word.0 e (ap (λ z. z.0) is ∙ e))
  recover_led s t first sits r (Some code) (Some word) e f =
      let is : word ≡ (r.state, true) = (let both : Some word ≡ Some (r.state, true) = f in cc) in
      subst (λ (b : Bool). (if b then decided r word.0 (table r.state word.0) else record r { control = None }).refused ≡ None) (sym (ap (λ z. z.1) is)) (gone r word.0 (table r.state word.0) (same s sits r word.0 e (ap (λ z. z.0) is ∙ e)))

  recover_seen : (s t first : ℕ) → table s s ≡ None → (r : Registers) (refused : Option ℕ) (control : Option (ℕ × Bool)) → r.refused ≡ refused → r.control ≡ control → Flag table s t first r ⊎ Cleared table s t first r → r.refused ≡ None → (word_carried table r refused control).refused ≡ None
  recover_seen s t first sits r refused None e f k seen = seen
  recover_seen s t first sits r (Some code) (Some word) e f k seen = absurd (let no : Some code ≡ None = sym e ∙ seen in cc)
  recover_seen s t first sits r None (Some word) e f (inl k) seen = absurd (let no : Some first ≡ None = sym k.refused ∙ seen in cc)
  recover_seen s t first sits r None (Some word) e f (inr k) seen = gone r word.0 (table r.state word.0) (same s sits r word.0 k.state (k.word word f))

  state_is : (s t first : ℕ) (r : Registers) → Flag table s t first r ⊎ Cleared table s t first r → r.state ≡ s
  state_is s t first r (inl k) = k.state
  state_is s t first r (inr k) = k.state

  phase_step : (s t : ℕ) (phase : Phase) → table s s ≡ None → (r : Registers) → InHand table s t phase r → IsSeen t phase r ⊎ IsLed t phase r → IsSeen t phase (carry table r)
  phase_step s t Phase.Ask sits r k led = tt
  phase_step s t Phase.Await sits r k (inl seen) = await_seen s t r r.refused r.control refl refl k seen
  phase_step s t Phase.Await sits r k (inr led) = await_led r t r.refused r.control refl led
  phase_step s t (Phase.Acknowledge state code) sits r k led = tt
  phase_step s t (Phase.Recover first) sits r k (inl seen) = recover_seen s t first sits r r.refused r.control refl refl k seen
  phase_step s t (Phase.Recover first) sits r k (inr led) = recover_led s t first sits r r.refused r.control (state_is s t first r k) led

  pub hand_step : {M : Type 0} (s : ℕ) → table s s ≡ None → (hand : Option (Hand M)) (r : Registers) → Kept table s hand r → HandLed hand r → HandSeen hand (carry table r)
  hand_step s sits None r k led = tt
  hand_step s sits (Some h) r k led = phase_step s h.target h.phase sits r k led

  seen_led : {M : Type 0} (hand : Option (Hand M)) (r : Registers) → HandSeen hand r → HandLed hand r
  seen_led None r k = tt
  seen_led (Some h) r k = inl k

  -- ---- THE WRITE OF ITS WORD
  written_led : (s t : ℕ) (phase : Phase) (r : Registers) → InHand table s t phase r → IsSeen t phase r ⊎ IsLed t phase r → (let n = word_met r (word_of t phase) in IsSeen t (phase_written phase) n ⊎ IsLed t (phase_written phase) n)
  written_led s t Phase.Ask r k led = inr refl
  written_led s t Phase.Await r k led = led
  written_led s t (Phase.Acknowledge state first) r k led = inr (ap (λ z. Some (z, true)) (k.0 ∙ sym (state_is s t first r k.1)))
  written_led s t (Phase.Recover first) r k led = led

  lost_led : (t : ℕ) (phase : Phase) (r : Registers) → IsSeen t phase r ⊎ IsLed t phase r → (let n = word_met r (word_of t phase) in IsSeen t phase n ⊎ IsLed t phase n)
  lost_led t Phase.Ask r led = inl tt
  lost_led t Phase.Await r led = led
  lost_led t (Phase.Acknowledge state first) r led = inl tt
  lost_led t (Phase.Recover first) r led = led

  writes_led : {M R : Type 0} (w : States M R) (s : ℕ) (hand : Option (Hand M)) (fate : Fate) → w.hand ≡ hand → Kept table s hand w.registers → HandLed hand w.registers → (let u = writes w hand fate in HandLed u.hand u.registers)
  writes_led w s None fate e k led = subst (λ z. HandLed z w.registers) (sym e) tt
  writes_led w s (Some h) Fate.Pass e k led = written_led s h.target h.phase w.registers k led
  writes_led w s (Some h) Fate.LostBefore e k led = led
  writes_led w s (Some h) Fate.LostBehind e k led = lost_led h.target h.phase w.registers led

  -- ---- THE READ OF THE STATUS
  turned_led : {M R : Type 0} (w : States M R) (target : ℕ) (read : List (News M)) (t : Turn R) → ((phase : Phase) → t ≡ Turn.Goes phase → IsSeen target phase w.registers ⊎ IsLed target phase w.registers) → (let u = turned w target read t in HandLed u.hand u.registers)
  turned_led w target read (Turn.Goes phase) goes = goes phase refl
  turned_led w target read (Turn.Ends answer) goes = tt

  abbrev goes : (R : Type 0) → Phase → Turn R
  goes R phase = Turn.Goes phase

  abbrev GoesLed : (R : Type 0) → ℕ → Registers → Turn R → Type 0
  GoesLed R target r t = (phase : Phase) → t ≡ Turn.Goes phase → IsSeen target phase r ⊎ IsLed target phase r

  goes_same : (R : Type 0) (target : ℕ) (r : Registers) (old : Phase) → IsSeen target old r ⊎ IsLed target old r → GoesLed R target r (Turn.Goes old)
  goes_same R target r old led phase e = subst (λ p. IsSeen target p r ⊎ IsLed target p r) (goes_is old phase e) led
    where
      goes_is : (a b : Phase) → goes R a ≡ goes R b → a ≡ b
      goes_is a b e = cc

  ends_never : (R : Type 0) (target : ℕ) (r : Registers) (answer : Outcome R) → GoesLed R target r (Turn.Ends answer)
  ends_never R target r answer phase e = absurd (cc)

  shown_led : (R : Type 0) (target : ℕ) (phase : Phase) (r : Registers) (state : ℕ) (refused : Option ℕ) → IsSeen target phase r ⊎ IsLed target phase r → GoesLed R target r (shown target phase state refused)
  shown_led R target Phase.Ask r state refused led = goes_same R target r Phase.Ask led
  shown_led R target Phase.Await r state None led = by (state == target)
    where
      by : (b : Bool) → GoesLed R target r (if b then Turn.Ends Outcome.Reached else Turn.Goes Phase.Await)
      by true = ends_never R target r Outcome.Reached
      by false = goes_same R target r Phase.Await led
  shown_led R target Phase.Await r state (Some code) led = goes_same R target r (Phase.Acknowledge state code) (inl tt)
  shown_led R target (Phase.Acknowledge s first) r state refused led = goes_same R target r (Phase.Acknowledge s first) led
  shown_led R target (Phase.Recover first) r state None led = ends_never R target r (Outcome.Refused first)
  shown_led R target (Phase.Recover first) r state (Some code) led = goes_same R target r (Phase.Recover first) led

  returned_led : {M R : Type 0} (w : States M R) (h : Hand M) (b : Bool) → w.hand ≡ Some h → HandLed (Some h) w.registers → (let u = returned w h b in HandLed u.hand u.registers)
  returned_led w h false e led = subst (λ z. HandLed z w.registers) (sym e) led
  returned_led {M} {R} w h true e led = turned_led w h.target _ (shown h.target h.phase w.registers.state w.registers.refused) (shown_led R h.target h.phase w.registers w.registers.state w.registers.refused led)

  looks_led : {M R : Type 0} (w : States M R) (hand : Option (Hand M)) (fate : Fate) → w.hand ≡ hand → HandLed hand w.registers → (let u = looks w hand fate in HandLed u.hand u.registers)
  looks_led w None fate e led = subst (λ z. HandLed z w.registers) (sym e) tt
  looks_led w (Some h) Fate.Pass e led = returned_led w h (reads h.phase) e led
  looks_led w (Some h) Fate.LostBefore e led = subst (λ z. HandLed z w.registers) (sym e) led
  looks_led w (Some h) Fate.LostBehind e led = subst (λ z. HandLed z w.registers) (sym e) led

  begins_led : {M R : Type 0} (w : States M R) (hand : Option (Hand M)) (target : ℕ) → w.hand ≡ hand → HandLed hand w.registers → (let u = begins w hand target in HandLed u.hand u.registers)
  begins_led w None target e led = inl tt
  begins_led w (Some h) target e led = subst (λ z. HandLed z w.registers) (sym e) led

  module _ (stays : (from to : ℕ) → table from to ≡ None → table to to ≡ None) (start : ℕ) where
    -- EACH EVENT
    pub steps_seen : {M R : Type 0} (w : States M R) → HoldsAt table stays start w → HandLed w.hand w.registers → HandSeen w.hand (carry table w.registers)
    steps_seen w k led = hand_step (state_closed table start w.closed) k.sits w.hand w.registers k.kept led

    happens_led : {M R : Type 0} (w : States M R) (e : Event) → HoldsAt table stays start w → HandLed w.hand w.registers → (let u = happens table w e in HandLed u.hand u.registers)
    happens_led w (Event.Begin target) k led = begins_led w w.hand target refl led
    happens_led w (Event.Write fate) k led = writes_led w (state_closed table start w.closed) w.hand fate refl k.kept led
    happens_led w (Event.Read fate) k led = looks_led w w.hand fate refl led
    happens_led w Event.Step k led = seen_led w.hand (carry table w.registers) (steps_seen w k led)

    pub record Both {M R : Type 0} (w : States M R) : Type 0 where
      pub holds : HoldsAt table stays start w
      pub led : HandLed w.hand w.registers

    pub run_both : {M R : Type 0} (w : States M R) (es : List Event) → Both w → Both (run table w es)
    run_both w [] b = b
    run_both w (e ∷ es) b = run_both (happens table w e) es (record { holds = happens_holds table stays start w e b.holds; led = happens_led w e b.holds b.led })

pub behind_step : (M R : Type 0) (table : Table) (start : ℕ) → IsTable table start → (r : Registers) → Rests start r → (es : List Event) → (let w = run table (idle_states {M = M} {R = R} r) es in HandSeen w.hand (carry table w.registers))
behind_step M R table start is r rests es =
    let new = idle_states {M = M} {R = R} r in
    let b = run_both table is.stays start new es (record { holds = record { told = tt; sits = is.sits; kept = record { state = rests.state; refused = rests.refused; word = rests.word }; reads = tt }; led = tt }) in
    steps_seen table is.stays start (run table new es) b.holds b.led

-- ---- WHAT A VISIT GAINS
word_on : (phase : Phase) → reads phase ≡ false → suc (phase_gains phase) ≤ phase_gains (phase_written phase)
word_on Phase.Ask e = omega arith
word_on Phase.Await e = absurd (cc)
word_on (Phase.Acknowledge state code) e = omega arith
word_on (Phase.Recover code) e = absurd (cc)

reached_on : (R : Type 0) (target state : ℕ) → state ≡ target → 3 ≤ progress_gains {R = R} (turn_progress (if state == target then Turn.Ends Outcome.Reached else Turn.Goes Phase.Await))
reached_on R target state e = subst (λ (b : Bool). 3 ≤ progress_gains {R = R} (turn_progress (if b then Turn.Ends Outcome.Reached else Turn.Goes Phase.Await))) (sym (eq-eqb state target e)) (omega arith)

status_on : (R : Type 0) (target : ℕ) (phase : Phase) (r : Registers) (refused : Option ℕ) → r.refused ≡ refused → IsSeen target phase r → reads phase ≡ true → suc (phase_gains phase) ≤ progress_gains {R = R} (turn_progress (shown target phase r.state refused))
status_on R target Phase.Ask r refused e seen f = absurd (cc)
status_on R target Phase.Await r None e seen f = reached_on R target r.state (seen e)
status_on R target Phase.Await r (Some code) e seen f = omega arith
status_on R target (Phase.Acknowledge state code) r refused e seen f = absurd (cc)
status_on R target (Phase.Recover first) r None e seen f = omega arith
status_on R target (Phase.Recover first) r (Some code) e seen f = absurd (let no : Some code ≡ None = sym e ∙ seen in cc)

pub takes_on : (R : Type 0) (target : ℕ) (phase : Phase) (r : Registers) → IsSeen target phase r → TakesOn R target phase r
takes_on R target phase r seen = record { word = word_on phase; status = status_on R target phase r r.refused refl seen }
