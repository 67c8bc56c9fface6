-- A slave that is opened, by a frame: its access stays in hand, or the next one is.
use Rattle.std.proofs.Common.{◌≡◌, inr, ℕ, suc, ◌==◌, ◌&&◌, Bool, true, false, Option, List, refl, sym, ap, ap₂, ◌∙◌, subst, length}
use Rattle.std.specs.Prelude.{◌||◌}
use Rattle.std.proofs.lemmas.Bool.{ne_eqb}
use Rattle.whole_ring.specs.of_ec_fields.Fields.{bits_of}
use Rattle.whole_ring.specs.of_esc_registers.declared.registers.Registers as Esc
use Rattle.whole_ring.specs.of_al_state.Request.{is_state}
use Rattle.whole_ring.specs.of_frames_seen.Slaves.{registers_seen}
use Rattle.whole_ring.specs.of_life_model.Repairs.{awaits_at}
use Rattle.whole_ring.specs.of_life_model.Eras.{Clearing}
use Rattle.whole_ring.specs.of_life_model.Lives.{Spot, Era, Opening, Stand, shows_clear, last_step}
use Rattle.slave_server.specs.of_link_mails.Body.{Body}
use Rattle.slave_server.specs.of_segment_model.Record.{Frame}
use Rattle.slave_server.specs.of_segment_model.Slaves.{Found}
use Rattle.run_frames.specs.of_segment_ring.Ring.{is_in_pace}
use Rattle.run_frames.specs.of_segment_ring.declared.wire.Fate.{Fate}
use Rattle.run_frames.specs.Goes.{stepped_behind}
use Rattle.whole_ring.specs.of_slave_lives.Lived.{Behind, RingFrame, ClosedFrame, is_reached, node_met, node_behind}
use Rattle.whole_ring.specs.of_slave_lives.Nodes.{IsRunning}
use Rattle.whole_ring.specs.of_slave_lives.Opening.{Plan, IsPlan, JustOne}
use Rattle.whole_ring.specs.of_slave_lives.Rings.{come_to, met, is_met_at}
use Rattle.whole_ring.specs.of_slave_lives.Stands.{IsClosed, Closing, MayStep, OpenUp}
use Rattle.whole_ring.proofs.of_slave_lives.Arrives as Arrived
use Rattle.whole_ring.proofs.of_slave_lives.Closing as Closed
use Rattle.whole_ring.proofs.of_slave_lives.RingFrames.{met_runs}
use Rattle.whole_ring.proofs.of_slave_lives.Words.{state_in}
use Rattle.whole_ring.specs.of_slave_lives.Shown.{StandsFor}
use Rattle.whole_ring.proofs.of_slave_lives.Going.{stays_on, goes_on, step_on}
use Rattle.whole_ring.proofs.of_slave_lives.Standing.{watch_stands}
use Rattle.whole_ring.specs.Turns.{FrameComes, Came}
use Rattle.whole_ring.specs.Whole.{IsWhole, LivesStill, OpensAs, OpensBy, plan_to}
use Rattle.whole_ring.proofs.Kept.{met_boot}
use Rattle.plan_ring.proofs.Ways.{clock_out}

-- an access that awaits no step answers for nothing
pub nothing_awaited : (o : Opening) (b : Bool) (r : Esc.Registers) → awaits_at o.again o.step ≡ false → StandsFor b o r
nothing_awaited o b r e = record { leads = λ a. absurd (let no : true ≡ false = sym a ∙ e in cc); shows = λ a s. absurd (let no : true ≡ false = sym a ∙ e in cc) }

-- another clock
pub clocked_so : (o : Opening) (b d : Bool) (r : Esc.Registers) → (awaits_at o.again o.step ≡ true → d ≡ true → b ≡ true) → StandsFor b o r → StandsFor d o r
clocked_so o b d r f s = record { leads = s.leads; shows = λ a e. s.shows a (f a e) }

module _ {S V A Q R : Type 0} (w : Behind S V A Q R) (c : Clearing V A) (p : Plan) (spot : Spot) (whole : IsWhole w c p spot) (fs : List (Frame Body)) (o : Opening) (t : RingFrame S) (runs : IsRunning w.running t.node) (boot : t.node.boot ≡ w.boot) (f : FrameComes w p spot (Stand.Opens o) t) where
  may_step : is_in_pace t.pace t.ring.number ≡ true → MayStep w.running w.boot (node_met t)
  may_step now = record {
    clears = whole.behind.clears;
    boot_is = met_boot (is_reached t) t.node (come_to t.before t.datagrams) ∙ boot;
    runs = met_runs w.running (is_reached t) t.node (come_to t.before t.datagrams) runs;
    roomy = f.roomy now;
  }

  closed_frame : Closing w.running w.boot w.lens (plan_to p o.state) o t.node → ClosedFrame w.running w.boot w.lens (plan_to p o.state) o t
  closed_frame cl = record { closing = cl; one = f.meets; steps = may_step }

  -- ---- THE SAME ACCESS
  module _ (before same : Bool) (is : same ≡ true) where
    clock_stays : (a : Bool) → stepped_behind t.pace t.ring.number same before ≡ true → (is_in_pace t.pace t.ring.number || before) ≡ true
    clock_stays a e = go (is_in_pace t.pace t.ring.number) refl
      where
        right : (x y : Bool) → (x && y) ≡ true → y ≡ true
        right true y e = e
        right false y e = absurd (cc)

        go : (b : Bool) → is_in_pace t.pace t.ring.number ≡ b → (b || before) ≡ true
        go true n = refl
        go false n = right same before (sym (clock_out t.pace t.ring.number same before n) ∙ e)

    closed_stays : Closing w.running w.boot w.lens (plan_to p o.state) o t.node → StandsFor before o t.node.registers → StandsFor (stepped_behind t.pace t.ring.number same before) o (node_behind w.running t).registers
    closed_stays cl s = clocked_so o (is_in_pace t.pace t.ring.number || before) (stepped_behind t.pace t.ring.number same before) (node_behind w.running t).registers (λ a e. clock_stays true e)
        (stays_on w.running w.boot w.lens (plan_to p o.state) o t (closed_frame cl) before s)

    pub stays : (from : A) (e : Era Body Q R) → OpensAs w p spot from e fs o t.node → StandsFor before o t.node.registers → StandsFor (stepped_behind t.pace t.ring.number same before) o (node_behind w.running t).registers
    stays from e (OpensBy.yet again step plan l) s = nothing_awaited o (stepped_behind t.pace t.ring.number same before) (node_behind w.running t).registers (ap₂ awaits_at again step)
    stays from e (OpensBy.anew cl x start) s = closed_stays cl s
    stays from e (OpensBy.over cl again early x) s = closed_stays cl s

  -- ---- THE NEXT ONE
  abbrev next : Opening
  next = record o { step = suc o.step }

  module _ (before same : Bool) (other : awaits_at o.again (suc o.step) ≡ true → same ≡ false) where
    clock_goes : awaits_at o.again (suc o.step) ≡ true → stepped_behind t.pace t.ring.number same before ≡ true → is_in_pace t.pace t.ring.number ≡ true
    clock_goes a e = go (is_in_pace t.pace t.ring.number) refl
      where
        go : (b : Bool) → is_in_pace t.pace t.ring.number ≡ b → b ≡ true
        go true n = refl
        go false n = absurd (let no : true ≡ false = sym e ∙ clock_out t.pace t.ring.number same before n ∙ ap (λ z. z && before) (other a) in cc)

    in_pace : StandsFor (is_in_pace t.pace t.ring.number) next (node_behind w.running t).registers → StandsFor (stepped_behind t.pace t.ring.number same before) next (node_behind w.running t).registers
    in_pace s = clocked_so next (is_in_pace t.pace t.ring.number) (stepped_behind t.pace t.ring.number same before) (node_behind w.running t).registers clock_goes s

    module _ (came : Bool × Option Found) (k : Came w p o t came) (clear : shows_clear o ≡ false) (ends : (o.step == last_step o) ≡ false) where
      reached : is_reached t ≡ true
      reached = ap (λ (fate : Fate). is_met_at (length t.before) fate) k.back.came

      -- an open slave met the first access of its reopening, and is frozen
      open_up : (from : A) (e : Era Body Q R) → LivesStill w spot from e fs t.node → OpenUp w.lens (plan_to p o.state) t.node.registers
      open_up from e l =
          let shows = l.lives.epoch.runs.shows in
          record {
            opens = l.lives.epoch.opens;
            station = l.lives.epoch.station ∙ sym whole.station;
            state = ap is_state (ap (λ (x : ℕ). bits_of x 0 4) shows.status ∙ state_in t.node.al shows.state) ∙ shows.state;
            up = ne_eqb (registers_seen t.node.registers).state 1 l.steady.state;
          }

      yet_goes : (from : A) (e : Era Body Q R) → o.again ≡ true → o.step ≡ 1 → IsPlan w.boot w.lens (plan_to p o.state) → LivesStill w spot from e fs t.node → StandsFor (is_in_pace t.pace t.ring.number) next (node_behind w.running t).registers
      yet_goes from e again one plan l =
          let just : JustOne (plan_to p o.state) 1 t.node.registers (come_to t.before t.datagrams) = subst (λ n. JustOne (plan_to p o.state) n t.node.registers (come_to t.before t.datagrams)) (Closed.again_is o again ∙ one) k.back.just in
          let frozen : IsClosed w.running w.boot w.lens (plan_to p o.state) next (node_met t) =
          subst (λ (b : Bool). IsClosed w.running w.boot w.lens (plan_to p o.state) next (met b t.node (come_to t.before t.datagrams))) (sym reached)
          (Arrived.freezes w.running w.boot w.lens (plan_to p o.state) next t.node (come_to t.before t.datagrams) (open_up from e l) again (inr (ap suc one)) just) in
          let stands : StandsFor false next (node_met t).registers = watch_stands w.running w.boot w.lens (plan_to p o.state) plan next refl (node_met t) frozen again (ap suc one) in
          subst (λ b. StandsFor b next (node_behind w.running t).registers) (plain (is_in_pace t.pace t.ring.number))
          (step_on w.running w.boot w.lens (plan_to p o.state) next plan refl (node_met t) false (is_in_pace t.pace t.ring.number) frozen may_step stands)
        where
          plain : (b : Bool) → (b || false) ≡ b
          plain true = refl
          plain false = refl

      closed_goes : Closing w.running w.boot w.lens (plan_to p o.state) o t.node → StandsFor (is_in_pace t.pace t.ring.number) next (node_behind w.running t).registers
      closed_goes cl = goes_on w.running w.boot w.lens (plan_to p o.state) o t (closed_frame cl) k.access came.0 came.1 k.back clear ends

      pub goes : (from : A) (e : Era Body Q R) → OpensAs w p spot from e fs o t.node → StandsFor (stepped_behind t.pace t.ring.number same before) next (node_behind w.running t).registers
      goes from e (OpensBy.yet again step plan l) = in_pace (yet_goes from e again step plan l)
      goes from e (OpensBy.anew cl x start) = in_pace (closed_goes cl)
      goes from e (OpensBy.over cl again early x) = in_pace (closed_goes cl)
