-- The frame for one slave: its datagram, and the slave behind it and its step.
use Rattle.std.proofs.Common.{◌≡◌, ℕ, suc, ◌%◌, ◌==◌, Bool, true, false, None, List, [], ◌∷◌, ap, ◌∙◌, if◌then◌else◌}
use Rattle.plan_ring.specs.of_exchange_model.Exchange.{Exchange, Speech}
use Rattle.idle_slaves.specs.Frames.{node_on}
use Rattle.idle_slaves.specs.Going.{registers_on}
use Rattle.plan_ring.specs.of_life_model.Lives.{Life, Spot}
use Rattle.plan_ring.specs.of_life_model.Own.{own}
use Rattle.plan_ring.specs.of_link_mails.Body.{Body}
use Rattle.plan_ring.specs.of_link_model.Slave.{Server, processor_step}
use Rattle.plan_ring.specs.of_master_duty.Reply.{Reply}
use Rattle.plan_ring.specs.of_master_hand.Spoken.{Asked}
use Rattle.plan_ring.specs.of_run_frames.Clocks.{Clocked}
use Rattle.plan_ring.specs.of_run_frames.Goes.{Under, back_life}
use Rattle.plan_ring.specs.of_run_frames.Waits.{Waits, waits_on}
use Rattle.plan_ring.specs.of_segment_model.Slaves.{Datagram, Serving, Slave, Processor, Registers, serving, slave_after, slave_steps, frame_after}
use Rattle.plan_ring.specs.of_state_model.States.{Table, carry}
use Rattle.idle_slaves.specs.Steps.{NotGone}
use Rattle.idle_slaves.specs.EagerFrames.{One, FrameAs}
use Rattle.idle_slaves.proofs.Choices.{stand_next, inn_next}
use Rattle.idle_slaves.proofs.Sent.{met}
use Rattle.idle_slaves.proofs.Facts.{carried_none}

module _ {V A : Type 0} (ex : Exchange V A Body Asked Reply) (processor : Processor V) (table : Table) (x : Spot → Speech Body Asked Reply) (acknowledged : Asked → Bool) (more : Body → Bool) (passed : Asked → Bool) (number : ℕ) (sent back : List (Datagram Body)) where
  abbrev v : Server Body (Serving V Body)
  v = serving ex

  module _ (c : Clocked Body Asked Reply) (u : Under Body Asked Reply) (t : Waits) (s s' : Slave V Body) (f : FrameAs ex processor table x acknowledged more passed number sent back c u t s s') where
    abbrev station : ℕ
    station = c.spot.station

    abbrev behind : Life Body Asked Reply
    behind = back_life x acknowledged more passed number back c u

    pub stand_is : u.life.stand ≡ c.life.stand
    stand_is = ap (λ (z : Life Body Asked Reply). z.stand) f.life ∙ stand_next (x c.spot) acknowledged more passed number c.life f.pick

    pub inn_is : u.life.era.side.halves.inn ≡ c.life.era.side.halves.inn
    inn_is = ap (λ (z : Life Body Asked Reply). z.era.side.halves.inn) f.life ∙ inn_next (x c.spot) acknowledged more passed number c.life f.pick

    pub back_none : u.under ≡ false → own station back ≡ []
    back_none out = f.back_is ∙ ap (frame_after station s) (f.none out)

    pub sent_none : u.under ≡ false → slave_after station s (own station sent) ≡ s
    sent_none out = ap (slave_after station s) (f.none out)

    pub back_one : (o : One station sent) → own station back ≡ met station s f.here o.datagram o.sent_so ∷ []
    back_one o = f.back_is ∙ ap (frame_after station s) o.is

    -- the slave behind the step, where the frame left it
    pub step_registers : slave_after station s (own station sent) ≡ s → s'.registers ≡ registers_on table number c s.registers
    step_registers left = ap (λ (z : Slave V Body). z.registers) f.slave ∙ by (suc number % c.pace == 0)
      where
        by : (b : Bool) → (let k = slave_after station s (own station sent) in if b then slave_steps ex processor k else k).registers ≡ (if b then carry table s.registers else s.registers)
        by true = ap (λ (z : Slave V Body). (slave_steps ex processor z).registers) left ∙ f.alone.registers
        by false = ap (λ (z : Slave V Body). z.registers) left

    pub step_node : slave_after station s (own station sent) ≡ s → NotGone c.life.era.account.hand → s'.node ≡ node_on v number c s.node
    step_node left not_gone = ap (λ (z : Slave V Body). z.node) f.slave ∙ by (suc number % c.pace == 0)
      where
        by : (b : Bool) → (let k = slave_after station s (own station sent) in if b then slave_steps ex processor k else k).node ≡ (if b then processor_step v s.node else s.node)
        by true = ap (λ (z : Slave V Body). (slave_steps ex processor z).node) left ∙ f.alone.node not_gone
        by false = ap (λ (z : Slave V Body). z.node) left

    pub step_control : s'.registers ≡ registers_on table number c s.registers → (t.stepped ≡ true → s.registers.control ≡ None) → (waits_on number c u t).stepped ≡ true → s'.registers.control ≡ None
    step_control registers before stepped = ap (λ (r : Registers). r.control) registers ∙ by (suc number % c.pace == 0) stepped
      where
        by : (b : Bool) → (if b then true else t.stepped) ≡ true → (if b then carry table s.registers else s.registers).control ≡ None
        by true e = carried_none table s.registers
        by false e = before e
