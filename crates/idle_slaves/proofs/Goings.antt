-- A slave of which a state service goes on, by a frame that came back and gained nothing of it.
use Rattle.std.proofs.Common.{◌≡◌, ◌≤◌, ℕ, suc, Bool, true, false, Option, Some, List, [], ◌∷◌, ◌++◌, refl, sym, ap, ◌∙◌, subst, arith, if◌then◌else◌, eq-eqb}
use Rattle.plan_ring.specs.of_exchange_model.Exchange.{Exchange, Speech}
use Rattle.idle_slaves.specs.Going.{Going, AccessVain, registers_on}
use Rattle.idle_slaves.specs.Visited.{memory_of}
use Rattle.idle_slaves.proofs.Going.{goes_so}
use Rattle.plan_ring.specs.of_life_model.Gains.{gains, phase_gains, stage_gains, progress_gains}
use Rattle.plan_ring.proofs.of_life_model.Gaining.{next_same, state_gains}
use Rattle.plan_ring.specs.of_life_model.Lives.{Life, Spot, Stand, life_back}
use Rattle.plan_ring.specs.of_life_model.Own.{own}
use Rattle.plan_ring.specs.of_link_mails.Body.{Body}
use Rattle.plan_ring.specs.of_link_model.Frames.{Ask, node_meets, halves_answered, halves_accept, all_accepted}
use Rattle.plan_ring.specs.of_link_model.Link.{Halves}
use Rattle.plan_ring.specs.of_link_model.Master.{InState, InHalf}
use Rattle.plan_ring.specs.of_link_model.Slave.{Server}
use Rattle.plan_ring.specs.of_master_duty.Reply.{Reply}
use Rattle.plan_ring.specs.of_master_hand.Spoken.{Asked}
use Rattle.plan_ring.specs.of_run_frames.Clocks.{Clocked}
use Rattle.plan_ring.specs.of_run_frames.Goes.{Under, back_life}
use Rattle.plan_ring.specs.of_run_frames.Orders.{is_live}
use Rattle.plan_ring.specs.of_run_frames.Waits.{Waits, waits_on}
use Rattle.plan_ring.specs.of_segment_model.Slaves.{Datagram, Found, Serving, Slave, Processor, grams, serving, slave_after, registers_met}
use Rattle.plan_ring.specs.of_segment_plan.declared.service.Service as Plan
use Rattle.plan_ring.specs.of_state_model.Stated.{Service}
use Rattle.plan_ring.specs.of_state_model.States.{Table, Phase, reads, phase_written}
use Rattle.plan_ring.specs.of_state_model.Accounts.{Stage, Progress, phase_access, access_done}
use Rattle.idle_slaves.specs.Eager.{Remembered, AsksStage, AsksFor, EachAsksFor, IsClear, IsEager}
use Rattle.idle_slaves.specs.EagerFrames.{One, FrameAs}
use Rattle.idle_slaves.specs.Standing.{Standing}
use Rattle.idle_slaves.proofs.Behind as Behind
use Rattle.idle_slaves.proofs.Choices.{hand_next}
use Rattle.idle_slaves.proofs.Sent.{met, met_ask, met_station, node_behind, registers_behind, access_came}
use Rattle.idle_slaves.proofs.Facts.{untouched}
use Rattle.idle_slaves.proofs.Framed as Framed

module _ {V A : Type 0} (ex : Exchange V A Body Asked Reply) (processor : Processor V) (table : Table) (x : Spot → Speech Body Asked Reply) (acknowledged : Asked → Bool) (more : Body → Bool) (passed : Asked → Bool) (number : ℕ) (sent back : List (Datagram Body)) where
  abbrev v : Server Body (Serving V Body)
  v = serving ex

  module _ (c : Clocked Body Asked Reply) (u : Under Body Asked Reply) (t : Waits) (s s' : Slave V Body) (f : FrameAs ex processor table x acknowledged more passed number sent back c u t s s') where
    abbrev station : ℕ
    station = c.spot.station

    abbrev behind : Life Body Asked Reply
    behind = back_life x acknowledged more passed number back c u

    stand_is : u.life.stand ≡ c.life.stand
    stand_is = Framed.stand_is ex processor table x acknowledged more passed number sent back c u t s s' f

    inn_is : u.life.era.side.halves.inn ≡ c.life.era.side.halves.inn
    inn_is = Framed.inn_is ex processor table x acknowledged more passed number sent back c u t s s' f

    back_none : u.under ≡ false → own station back ≡ []
    back_none = Framed.back_none ex processor table x acknowledged more passed number sent back c u t s s' f

    sent_none : u.under ≡ false → slave_after station s (own station sent) ≡ s
    sent_none = Framed.sent_none ex processor table x acknowledged more passed number sent back c u t s s' f

    back_one : (o : One station sent) → own station back ≡ met station s f.here o.datagram o.sent_so ∷ []
    back_one = Framed.back_one ex processor table x acknowledged more passed number sent back c u t s s' f

    step_registers : slave_after station s (own station sent) ≡ s → s'.registers ≡ registers_on table number c s.registers
    step_registers = Framed.step_registers ex processor table x acknowledged more passed number sent back c u t s s' f

    module _ (m : Remembered) (next : Option Plan.Service) (begun : Option (Service Asked)) (eager : IsEager (x c.spot) station sent m u.under begun next c.life u.life) (g : Going table c.life s.registers t) (clear : c.life.era.side.halves.inn.state ≡ InState.Clear) where
      abbrev on : Waits
      on = waits_on number c u t

      abbrev WaitsYet : Type 0
      WaitsYet = (is_live behind.stand ≡ true) × (on.tries ≤ 1)

      open_next : u.life.stand ≡ Stand.Open
      open_next = stand_is ∙ g.stands

      hand_now : u.life.era.account.hand ≡ Some g.duty
      hand_now = ap (λ (z : Life Body Asked Reply). z.era.account.hand) f.life ∙ hand_next (x c.spot) acknowledged more passed number c.life f.pick g.stands g.duty g.hand

      clear_now : IsClear u.life
      clear_now = record { stands = open_next; clear = ap (λ (h : InHalf). h.state) inn_is ∙ clear }

      asks_access : (o : One station sent) → (o.datagram.gram.ask ≡ Ask.Other) × (o.datagram.access ≡ phase_access g.duty.target g.phase)
      asks_access o =
          let asked = (subst (λ ds. EachAsksFor u.life.era.side.halves (memory_of c.life u.life m.memory) u.life.era.account.hand u.life.era.passing ds) o.is (eager.asks clear_now)).0 in
          subst (λ stage. AsksStage u.life.era.side.halves (memory_of c.life u.life m.memory) g.duty.target stage o.datagram) g.stage
          (subst (λ h. AsksFor u.life.era.side.halves (memory_of c.life u.life m.memory) h u.life.era.passing o.datagram) hand_now asked)

      access_vain : AccessVain x acknowledged more passed number back c u g.duty g.phase s.registers
      access_vain = record {
        pick = f.pick;
        life = f.life;
        visits = λ e. let o = f.one open_next e in access_came station s f.here o.datagram o.sent_so back g.duty g.phase (back_one o) (asks_access o).1;
        none = back_none;
        same = f.same;
      }

      on_going : Going table behind (registers_on table number c s.registers) on
      on_going = goes_so table x acknowledged more passed number back c u s.registers t g access_vain

      same_open : gains (life_back (x c.spot) acknowledged more passed number c.spot u.news back u.came u.life Stand.Open) ≡ gains u.life
      same_open =
          ap (λ z. gains (life_back (x c.spot) acknowledged more passed number c.spot u.news back u.came u.life z)) (sym open_next) ∙ f.same
          ∙ sym (next_same (x c.spot) acknowledged more passed number c.life c.life.stand f.pick) ∙ ap gains (sym f.life)

      -- a control word that was written takes it on
      word_gains : (p : Phase) → reads p ≡ false → suc (phase_gains p) ≤ phase_gains (phase_written p)
      word_gains Phase.Ask e = omega arith
      word_gains Phase.Await e = absurd (cc)
      word_gains (Phase.Acknowledge state code) e = omega arith
      word_gains (Phase.Recover code) e = absurd (cc)

      word_made : (p : Phase) (found : Option Found) → reads p ≡ false → access_done {R = Reply} g.duty.target (Stage.Goes p) (phase_access g.duty.target p) found ≡ Progress.On (Stage.Goes (phase_written p))
      word_made Phase.Ask found e = refl
      word_made Phase.Await found e = absurd (cc)
      word_made (Phase.Acknowledge state code) found e = refl
      word_made (Phase.Recover code) found e = absurd (cc)

      no_word : {X : Type 0} → One station sent → u.under ≡ true → reads g.phase ≡ false → X
      no_word o e writes =
          let came = access_came station s f.here o.datagram o.sent_so back g.duty g.phase (back_one o) (asks_access o).1 in
          let d = came.datagram in
          let made : access_done {R = Reply} g.duty.target g.duty.stage d.access d.found ≡ Progress.On (Stage.Goes (phase_written g.phase)) =
          ap (λ z. access_done {R = Reply} g.duty.target z d.access d.found) g.stage ∙ ap (λ z. access_done {R = Reply} g.duty.target (Stage.Goes g.phase) z d.found) came.access ∙ word_made g.phase d.found writes in
          let more_now : suc (stage_gains g.duty.stage) ≤ progress_gains (access_done {R = Reply} g.duty.target g.duty.stage d.access d.found) =
          omega (arith, word_gains g.phase writes, ap stage_gains g.stage, ap progress_gains made) in
          let gained = state_gains (x c.spot) acknowledged more passed number c.spot u.news back u.came u.life d g.duty came.one hand_now came.address came.met more_now in
          absurd (let same = same_open in omega (arith, gained, same))

      access_registers : (o : One station sent) → u.under ≡ true → (p : Phase) → g.phase ≡ p → registers_met s.registers (phase_access g.duty.target p) ≡ s.registers
      access_registers o e Phase.Await is = refl
      access_registers o e (Phase.Recover code) is = refl
      access_registers o e Phase.Ask is = no_word o e (ap reads is)
      access_registers o e (Phase.Acknowledge state code) is = no_word o e (ap reads is)

      going_left : (b : Bool) → u.under ≡ b → slave_after station s (own station sent) ≡ s
      going_left false e = sent_none e
      going_left true e =
          let o = f.one open_next e in
          let asked = asks_access o in
          untouched station s o.datagram (own station sent) o.is (node_behind station s f.here o.datagram o.sent_so ∙ ap (node_meets s.node) (met_ask station s f.here o.datagram o.sent_so ∙ asked.0))
          (registers_behind station s f.here o.datagram o.sent_so ∙ ap (registers_met s.registers) asked.1 ∙ access_registers o e g.phase refl)

      clear_behind : (b : Bool) → u.under ≡ b → behind.era.side.halves.inn.state ≡ InState.Clear
      clear_behind false e = ap (λ (h : Halves Body). h.inn.state) (Behind.halves_none (x c.spot) acknowledged more passed number c.spot u.news back u.came u.life open_next (back_none e)) ∙ clear_now.clear
      clear_behind true e =
          let o = f.one open_next e in
          let d = met station s f.here o.datagram o.sent_so in
          ap (λ (h : Halves Body). h.inn.state) (Behind.halves_one (x c.spot) acknowledged more passed number c.spot u.news back u.came u.life open_next d (back_one o) (met_station station s f.here o.datagram o.sent_so))
          ∙ ap (λ a. (halves_answered u.life.era.side.halves a d.gram).inn.state) (met_ask station s f.here o.datagram o.sent_so ∙ (asks_access o).0) ∙ clear_now.clear

      -- no mail was heard of it
      silent : (b : Bool) → u.under ≡ b → all_accepted c.spot.station u.life.era.side.halves (grams (own c.spot.station back)) ≡ []
      silent false e = ap (λ (ds : List (Datagram Body)). all_accepted station u.life.era.side.halves (grams ds)) (back_none e)
      silent true e =
          let h = u.life.era.side.halves in
          let o : One station sent = f.one open_next e in
          let d : Datagram Body = met station s f.here o.datagram o.sent_so in
          ap (λ (ds : List (Datagram Body)). all_accepted station h (grams ds)) (back_one o)
          ∙ ap (λ (b : Bool). (if b then halves_accept h d.gram.ask d.gram else []) ++ []) (eq-eqb d.gram.station station (met_station station s f.here o.datagram o.sent_so))
          ∙ ap (λ a. halves_accept h a d.gram ++ []) (met_ask station s f.here o.datagram o.sent_so ∙ (asks_access o).0)

      pub going_silent : all_accepted c.spot.station u.life.era.side.halves (grams (own c.spot.station back)) ≡ []
      going_silent = silent u.under refl

      pub going_stands : (n : Remembered) (next' : Option Plan.Service) → Standing v table (x c.spot) acknowledged behind s' n next' on × WaitsYet
      going_stands n next' = (
        Standing.goes (subst (λ r. Going table behind r on) (sym (step_registers (going_left u.under refl))) on_going) (clear_behind u.under refl),
        (ap is_live on_going.stands, omega (arith, on_going.tries)),
      )
