-- A state service in hand and its slave's registers, event by event.
use Rattle.std.proofs.Common.{◌≡◌, ℕ, Bool, true, false, Option, Some, None, List, [], ◌∷◌, ◌++◌, refl, sym, ap, ◌∙◌, subst, if◌then◌else◌}
use Rattle.idle_slaves.specs.Phases.{idle_states}
use Rattle.plan_ring.specs.of_link_model.Link.{Fate, is_met}
use Rattle.plan_ring.specs.of_segment_model.Record.{News}
use Rattle.plan_ring.specs.of_segment_model.Slaves.{Registers}
use Rattle.plan_ring.specs.of_state_model.States.{Table, Phase, Hand, States, Event, Turn, happens, run, begins, writes, looks, returned, turned, shown, reads, word_of, word_met, phase_behind, phase_written, carry}
use Rattle.plan_ring.specs.of_state_model.Accounts.{Account, Duty, Stage, account_by, turn_progress}
use Rattle.plan_ring.proofs.of_state_model.Served.{duty_of}

run_more : {M R : Type 0} (table : Table) (w : States M R) (es : List Event) (e : Event) → run table w (es ++ e ∷ []) ≡ happens table (run table w es) e
run_more table w [] e = refl
run_more table w (d ∷ es) e = run_more table (happens table w d) es e

-- the service in hand, as the model of state services has it: one that drains has not begun there
abbrev pub FitsStage : {M : Type 0} → ℕ → Stage → Option (Hand M) → Type 0
FitsStage target Stage.Drains h = h ≡ None
FitsStage {M} target (Stage.Goes phase) h = (hand : Hand M) × (h ≡ Some hand) × (hand.target ≡ target) × (hand.phase ≡ phase)

abbrev pub Fits : {M : Type 0} → Option Duty → Option (Hand M) → Type 0
Fits None h = h ≡ None
Fits (Some duty) h = FitsStage duty.target duty.stage h

-- both are come to by events
pub record ComesTo (M R : Type 0) (table : Table) (first r : Registers) (hand : Option Duty) : Type 0 where
  pub events : List Event
  pub fits : Fits hand (run table (idle_states {M = M} {R = R} first) events).hand
  pub registers : (run table (idle_states {M = M} {R = R} first) events).registers ≡ r

-- the account behind a status
abbrev pub by_turn : {Q R : Type 0} → ℕ → Account Q R → ℕ → ℕ → Phase → Turn R → Account Q R
by_turn frame a begun target phase turn = account_by frame a (duty_of target begun (Stage.Goes phase)) (turn_progress turn)

module _ {M R : Type 0} (table : Table) (first : Registers) where
  one_more : (r n : Registers) (old new : Option Duty) (e : Event) → (c : ComesTo M R table first r old) →
      (let w = happens table (run table (idle_states {M = M} {R = R} first) c.events) e in Fits new w.hand × (w.registers ≡ n)) → ComesTo M R table first n new
  one_more r n old new e c k =
      let more = run_more table (idle_states {M = M} {R = R} first) c.events e in
      record { events = c.events ++ e ∷ []; fits = subst (λ (w : States M R). Fits new w.hand) (sym more) k.0; registers = ap (λ (w : States M R). w.registers) more ∙ k.1 }

  pub new_come : ComesTo M R table first first None
  new_come = record { events = []; fits = refl; registers = refl }

  pub same_come : (r n : Registers) (old new : Option Duty) → n ≡ r → new ≡ old → ComesTo M R table first r old → ComesTo M R table first n new
  same_come r n old new e f c = subst (λ z. ComesTo M R table first z new) (sym e) (subst (λ z. ComesTo M R table first r z) (sym f) c)

  -- a step of the processor
  pub step_come : (r : Registers) (hand : Option Duty) → ComesTo M R table first r hand → ComesTo M R table first (carry table r) hand
  step_come r hand c = one_more r (carry table r) hand hand Event.Step c (c.fits, ap (carry table) c.registers)

  -- mailbox 0 was seen empty
  begun_fits : (w : States M R) (h : Option (Hand M)) (target : ℕ) → h ≡ None → (let u = begins w h target in FitsStage target (Stage.Goes Phase.Ask) u.hand × (u.registers ≡ w.registers))
  begun_fits w None target e = ((_, refl, refl, refl), refl)
  begun_fits w (Some h) target e = absurd (let no : Some h ≡ None = e in cc)

  pub begun_come : (r : Registers) (target begun : ℕ) → ComesTo M R table first r (Some (duty_of target begun Stage.Drains)) → ComesTo M R table first r (Some (duty_of target begun (Stage.Goes Phase.Ask)))
  begun_come r target begun c =
      let w = run table (idle_states {M = M} {R = R} first) c.events in
      let k = begun_fits w w.hand target c.fits in
      one_more r r (Some (duty_of target begun Stage.Drains)) (Some (duty_of target begun (Stage.Goes Phase.Ask))) (Event.Begin target) c (k.0, k.1 ∙ c.registers)

  -- its word was written
  wrote_fits : (w : States M R) (h : Option (Hand M)) (hand : Hand M) (fate : Fate) → h ≡ Some hand →
      (let u = writes w h fate in FitsStage hand.target (Stage.Goes (phase_behind hand.phase fate)) u.hand × (u.registers ≡ (if is_met fate then word_met w.registers (word_of hand.target hand.phase) else w.registers)))
  wrote_fits w None hand fate e = absurd (let no : None ≡ Some hand = e in cc)
  wrote_fits w (Some h) hand fate e =
      let is : h ≡ hand = (let both : Some h ≡ Some hand = e in cc) in
      subst (λ (z : Hand M). (let u = writes w (Some h) fate in FitsStage z.target (Stage.Goes (phase_behind z.phase fate)) u.hand × (u.registers ≡ (if is_met fate then word_met w.registers (word_of z.target z.phase) else w.registers)))) is
      ((_, refl, refl, refl), refl)

  abbrev Wrote : (w : States M R) → Fate → Registers → ℕ → Phase → Type 0
  Wrote w fate r target phase = let u = writes w w.hand fate in FitsStage target (Stage.Goes (phase_behind phase fate)) u.hand × (u.registers ≡ (if is_met fate then word_met r (word_of target phase) else r))

  wrote : (w : States M R) (fate : Fate) (r : Registers) (target : ℕ) (phase : Phase) → FitsStage target (Stage.Goes phase) w.hand → w.registers ≡ r → Wrote w fate r target phase
  wrote w fate r target phase (hand, is, goal, at) e =
      subst (λ z. Wrote w fate z target phase) e (subst (λ z. Wrote w fate w.registers target z) at (subst (λ z. Wrote w fate w.registers z hand.phase) goal (wrote_fits w w.hand hand fate is)))

  pub wrote_come : (r : Registers) (target begun : ℕ) (phase : Phase) → ComesTo M R table first r (Some (duty_of target begun (Stage.Goes phase))) →
      ComesTo M R table first (word_met r (word_of target phase)) (Some (duty_of target begun (Stage.Goes (phase_written phase))))
  wrote_come r target begun phase c =
      one_more r (word_met r (word_of target phase)) (Some (duty_of target begun (Stage.Goes phase))) (Some (duty_of target begun (Stage.Goes (phase_written phase)))) (Event.Write Fate.Pass) c
      (wrote (run table (idle_states {M = M} {R = R} first) c.events) Fate.Pass r target phase c.fits c.registers)

  pub lost_come : (r : Registers) (target begun : ℕ) (phase : Phase) → ComesTo M R table first r (Some (duty_of target begun (Stage.Goes phase))) →
      ComesTo M R table first (word_met r (word_of target phase)) (Some (duty_of target begun (Stage.Goes phase)))
  lost_come r target begun phase c =
      one_more r (word_met r (word_of target phase)) (Some (duty_of target begun (Stage.Goes phase))) (Some (duty_of target begun (Stage.Goes phase))) (Event.Write Fate.LostBehind) c
      (wrote (run table (idle_states {M = M} {R = R} first) c.events) Fate.LostBehind r target phase c.fits c.registers)

  -- a status was read
  module _ {Q : Type 0} (frame : ℕ) (a : Account Q R) (begun : ℕ) where
    turned_fits : (w : States M R) (target : ℕ) (phase : Phase) (read : List (News M)) (turn : Turn R) → (let u = turned w target read turn in Fits (by_turn frame a begun target phase turn).hand u.hand × (u.registers ≡ w.registers))
    turned_fits w target phase read (Turn.Goes next) = ((_, refl, refl, refl), refl)
    turned_fits w target phase read (Turn.Ends answer) = (refl, refl)

    abbrev Looked : (w : States M R) → Option (Hand M) → Registers → ℕ → Phase → Type 0
    Looked w h r target phase = let u = looks w h Fate.Pass in Fits (by_turn frame a begun target phase (shown target phase r.state r.refused)).hand u.hand × (u.registers ≡ r)

    returned_fits : (w : States M R) (hand : Hand M) (b : Bool) → b ≡ true → (let u = returned w hand b in Fits (by_turn frame a begun hand.target hand.phase (shown hand.target hand.phase w.registers.state w.registers.refused)).hand u.hand × (u.registers ≡ w.registers))
    returned_fits w hand false e = absurd (cc)
    returned_fits w hand true e = turned_fits w hand.target hand.phase _ (shown hand.target hand.phase w.registers.state w.registers.refused)

    looked_fits : (w : States M R) (h : Option (Hand M)) (hand : Hand M) → h ≡ Some hand → reads hand.phase ≡ true → Looked w h w.registers hand.target hand.phase
    looked_fits w None hand e does = absurd (let no : None ≡ Some hand = e in cc)
    looked_fits w (Some h) hand e does =
        let is : h ≡ hand = (let both : Some h ≡ Some hand = e in cc) in
        subst (λ (z : Hand M). Looked w (Some h) w.registers z.target z.phase) is (returned_fits w h (reads h.phase) (ap (λ (z : Hand M). reads z.phase) is ∙ does))

    looked : (w : States M R) (r : Registers) (target : ℕ) (phase : Phase) → FitsStage target (Stage.Goes phase) w.hand → w.registers ≡ r → reads phase ≡ true → Looked w w.hand r target phase
    looked w r target phase (hand, is, goal, at) e does =
        subst (λ z. Looked w w.hand z target phase) e (subst (λ z. Looked w w.hand w.registers target z) at (subst (λ z. Looked w w.hand w.registers z hand.phase) goal (looked_fits w w.hand hand is (ap reads at ∙ does))))

    pub looked_come : (r : Registers) (target : ℕ) (phase : Phase) → reads phase ≡ true → ComesTo M R table first r (Some (duty_of target begun (Stage.Goes phase))) → ComesTo M R table first r (by_turn frame a begun target phase (shown target phase r.state r.refused)).hand
    looked_come r target phase does c =
        one_more r r (Some (duty_of target begun (Stage.Goes phase))) (by_turn frame a begun target phase (shown target phase r.state r.refused)).hand (Event.Read Fate.Pass) c
        (looked (run table (idle_states {M = M} {R = R} first) c.events) r target phase c.fits c.registers does)
