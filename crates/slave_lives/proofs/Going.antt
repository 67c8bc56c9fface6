-- By each frame of a ring and the step behind it.
use Rattle.std.proofs.Common.{◌≡◌, ◌⊎◌, inl, inr, ℕ, suc, ◌==◌, Bool, true, false, Option, Some, List, refl, sym, ap, ap₂, ◌∙◌, subst, arith, if◌then◌else◌, length}
use Rattle.std.specs.Prelude.{◌||◌}
use Rattle.frames_seen.specs.of_datagrams.Datagram as Raw
use Rattle.frames_seen.specs.of_slave_node.Passing.{registers_after}
use Rattle.frames_seen.specs.of_frame_view.View.{Lens}
use Rattle.frames_seen.specs.of_life_model.Repairs.{awaits_at, awaited}
use Rattle.frames_seen.specs.of_life_model.Lives.{Opening, shows_clear, last_step}
use Rattle.frames_seen.specs.of_segment_model.Slaves.{Found}
use Rattle.frames_seen.specs.of_segment_ring.Ring.{is_in_pace}
use Rattle.frames_seen.specs.of_segment_ring.declared.wire.Fate.{Fate}
use Rattle.slave_lives.specs.Lived.{RingFrame, is_reached, node_met, node_behind, ClosedFrame, AccessBack}
use Rattle.slave_lives.specs.Nodes.{stepped}
use Rattle.slave_lives.specs.Opening.{Plan, IsPlan, IsBringing, AtMostOne, JustOne}
use Rattle.slave_lives.specs.Returning.{IsReturned}
use Rattle.slave_lives.specs.Rings.{come_to, met, is_met_at}
use Rattle.slave_lives.specs.Stands.{turn_of, bring_turn, IsClosed, MayStep}
use Rattle.slave_lives.specs.Steps.{Running}
use Rattle.slave_lives.proofs.Brought as Brought
use Rattle.slave_lives.proofs.Closing as Closed
use Rattle.frames_seen.specs.of_slave_node.Node.{Node}
use Rattle.slave_lives.specs.Shown.{Shows, Waits, StandsFor}
use Rattle.slave_lives.proofs.Reading.{word_waits}
use Rattle.slave_lives.proofs.Standing.{Awaits, awaits_of, steps_stand, frame_stands, watch_stands}

module _ {S : Type 0} (u : Running S) (boot : Bool) (lens : ℕ → Lens) (p : Plan) where
  -- the step that follows, where the pace has one
  pub step_on : (k : Opening) → IsPlan boot lens p → k.state ≡ p.start → (n : Node S) (before pace : Bool) → IsClosed u boot lens p k n → (pace ≡ true → MayStep u boot n) → StandsFor before k n.registers →
      StandsFor (pace || before) k (if pace then stepped u n else n).registers
  step_on k plan opens n before true closed may s = steps_stand u boot lens p plan k opens n before closed (may refl) s
  step_on k plan opens n before false closed may s = s

  module _ (o : Opening) (t : RingFrame S) (f : ClosedFrame u boot lens p o t) where
    abbrev pace : Bool
    pace = is_in_pace t.pace t.ring.number

    abbrev comes : List Raw.Datagram
    comes = come_to t.before t.datagrams

    closed_met : IsClosed u boot lens p o (node_met t)
    closed_met = go (is_reached t) f.one
      where
        go : (b : Bool) → (b ≡ true → AtMostOne p (turn_of o) t.node.registers comes) → IsClosed u boot lens p o (met b t.node comes)
        go true one = Closed.frame_stays u boot lens p f.closing.plan o t.node true comes (one refl) f.closing.closed
        go false one = f.closing.closed

    -- THE SAME ACCESS IN HAND
    pub stays_on : (before : Bool) → StandsFor before o t.node.registers → StandsFor (pace || before) o (node_behind u t).registers
    stays_on before s =
        step_on o f.closing.plan f.closing.state (node_met t) before pace closed_met f.steps (frame_stands u boot lens p f.closing.plan o f.closing.state t.node before (is_reached t) comes f.closing.closed f.one s)

    -- THE NEXT ONE
    module _ (d : Raw.Datagram) (done : Bool) (found : Option Found) (back : AccessBack lens p o t d done found) (clear : shows_clear o ≡ false) (ends : (o.step == last_step o) ≡ false) where
      abbrev next : Opening
      next = record o { step = suc o.step }

      reached : is_reached t ≡ true
      reached = ap (λ (fate : Fate). is_met_at (length t.before) fate) back.came

      closed_next : IsClosed u boot lens p next (met true t.node comes)
      closed_next = Closed.frame_goes u boot lens p f.closing.plan o t.node comes back.just clear ends f.closing.closed

      -- the word of the state that is opened was written
      word_next : (turn_of o ≡ 8) → IsReturned u p 8 t.node.registers t.node.kept t.node.server → shows_clear next ≡ false → Waits next (registers_after t.node.registers comes)
      word_next eight b none =
          word_waits boot lens p f.closing.plan t.node.registers comes (b.station (omega arith)) (subst (λ m. JustOne p m t.node.registers comes) eight back.just)
          ∙ ap₂ (λ (state : ℕ) (c : Bool). Some (state, c)) (sym f.closing.state ∙ sym (ap (λ (c : Bool). if c then 1 else o.state) none)) (sym none)

      by_closed : Awaits next → IsClosed u boot lens p o t.node → Shows (awaited next) (registers_after t.node.registers comes) ⊎ Waits next (registers_after t.node.registers comes)
      by_closed (Awaits.watch a two) closed = (watch_stands u boot lens p f.closing.plan next f.closing.state (met true t.node comes) closed_next a two).leads (ap₂ awaits_at a two)
      by_closed (Awaits.again a nine) (IsClosed.brings up step b clears none) = absurd (let no : true ≡ false = sym a ∙ up in cc)
      by_closed (Awaits.again a nine) (IsClosed.frozen a' (inl one) x) = absurd (let no : 2 ≡ 9 = sym (ap suc one) ∙ nine in cc)
      by_closed (Awaits.again a nine) (IsClosed.frozen a' (inr two) x) = absurd (let no : 3 ≡ 9 = sym (ap suc two) ∙ nine in cc)
      by_closed (Awaits.again a nine) (IsClosed.left a' one start turn former b) = absurd (let no : 2 ≡ 9 = sym (ap suc one) ∙ nine in cc)
      by_closed (Awaits.again a nine) (IsClosed.returned a' step b) =
          let eight : o.step ≡ 8 = omega (arith, nine) in
          inr (word_next (Closed.again_is o a ∙ eight) (subst (λ m. IsReturned u p m t.node.registers t.node.kept t.node.server) eight b) (ap₂ (λ (x : Bool) (s : ℕ). shows_clear (record o { again = x; step = s })) a nine))
      by_closed (Awaits.first a five) (IsClosed.brings up step b clears none) =
          let four : o.step ≡ 4 = omega (arith, five) in
          inr (word_next (Closed.bring_is o a ∙ ap bring_turn four)
          (Brought.returned u boot lens p f.closing.plan 8 t.node.registers t.node.kept t.node.server (subst (λ m. IsBringing p m t.node.registers t.node.kept t.node.server) (ap bring_turn four) b) clears none)
          (ap (λ (x : Bool). shows_clear (record next { again = x })) a))
      by_closed (Awaits.first a five) (IsClosed.frozen a' step x) = absurd (let no : true ≡ false = sym a' ∙ a in cc)
      by_closed (Awaits.first a five) (IsClosed.left a' one start turn former b) = absurd (let no : true ≡ false = sym a' ∙ a in cc)
      by_closed (Awaits.first a five) (IsClosed.returned a' step b) = absurd (let no : true ≡ false = sym a' ∙ a in cc)

      stands_next : StandsFor false next (met true t.node comes).registers
      stands_next = record { leads = λ e. by_closed (awaits_of next e) f.closing.closed; shows = λ e no_. absurd (cc) }

      pub goes_on : StandsFor pace next (node_behind u t).registers
      goes_on = subst (λ b. StandsFor b next (node_behind u t).registers) (same pace)
          (step_on next f.closing.plan f.closing.state (node_met t) false pace (subst (λ b. IsClosed u boot lens p next (met b t.node comes)) (sym reached) closed_next) f.steps
          (subst (λ b. StandsFor false next (met b t.node comes).registers) (sym reached) stands_next))
        where
          same : (b : Bool) → (b || false) ≡ b
          same true = refl
          same false = refl
