-- HOW A SLAVE STANDS while frames come back and gain nothing.
use Rattle.std.specs.Prelude.{◌≡◌, ◌≤◌, Bool, true, false, Option, None}
use Rattle.plan_ring.specs.of_exchange_model.Exchange.{Speech}
use Rattle.idle_slaves.specs.Held.{HeldUp}
use Rattle.idle_slaves.specs.Going.{Going}
use Rattle.idle_slaves.specs.Visited.{Shows, Waiting, LifeSpent}
use Rattle.idle_slaves.specs.Waiting.{Wanted, Memory}
use Rattle.plan_ring.specs.of_life_model.Lives.{Life, Stand}
use Rattle.plan_ring.specs.of_link_mails.Body.{Body}
use Rattle.plan_ring.specs.of_link_model.Agree.{Agrees}
use Rattle.plan_ring.specs.of_link_model.Link.{Link}
use Rattle.plan_ring.specs.of_link_model.Master.{InState}
use Rattle.plan_ring.specs.of_link_model.Slave.{Node, Server, processor_step}
use Rattle.plan_ring.specs.of_master_duty.Reply.{Reply}
use Rattle.plan_ring.specs.of_master_hand.Spoken.{Asked}
use Rattle.plan_ring.specs.of_run_frames.Waits.{Waits}
use Rattle.plan_ring.specs.of_segment_model.Slaves.{Serving, Slave}
use Rattle.plan_ring.specs.of_segment_plan.declared.service.Service as Plan
use Rattle.plan_ring.specs.of_state_model.States.{Table}
use Rattle.idle_slaves.specs.Eager.{Remembered, NoneLeft, IsAtEnd}

-- steps of a slave's processor, and whether it made one
pub data Steps {M S : Type 0} (v : Server M S) (n : Node M S) : Node M S → Bool → Type 0 where
  none : Steps v n n false
  more : (k : Node M S) (b : Bool) → Steps v n k b → Steps v n (processor_step v k) true

-- NOT VISITED since something was gained: a link agreed then, and the slave made steps
pub record Unvisited {S : Type 0} (v : Server Body S) (l : Life Body Asked Reply) (n : Node Body S) (t : Waits) : Type 0 where
  pub link : Link Body S
  pub wanted : Wanted
  pub agrees : Agrees link
  pub clear : link.halves.inn.state ≡ InState.Clear
  pub shows : Shows l link.node link wanted
  pub steps : Steps v link.node n t.stepped
  pub tries : t.tries ≡ 0

-- VISITED IN VAIN since then: it waits, and with no mail held none is left to tell
pub record Visited {S : Type 0} (v : Server Body S) (x : Speech Body Asked Reply) (l : Life Body Asked Reply) (n : Node Body S) (m : Memory) (t : Waits) : Type 0 where
  pub waits : Waiting v l n m t
  pub left : l.era.side.halves.out.holding ≡ None → NoneLeft x l

-- A SLAVE STANDS: given up for good; open with nothing in doubt, and not visited yet, or visited in vain; or with a state service past its drain. No control
-- word waits behind a step, behind two visits in vain its script is at its end, and so it is behind a write in vain where a state service might begin
pub data Standing {V : Type 0} (v : Server Body (Serving V Body)) (table : Table) (x : Speech Body Asked Reply) (acknowledged : Asked → Bool) (l : Life Body Asked Reply) (s : Slave V Body) (m : Remembered) (next : Option Plan.Service) (t : Waits) : Type 0 where
  gone : l.stand ≡ Stand.Gone → Standing v table x acknowledged l s m next t
  fresh : Unvisited v l s.node t → (t.stepped ≡ true → s.registers.control ≡ None) → Standing v table x acknowledged l s m next t
  waits : Visited v x l s.node m.memory t → (t.stepped ≡ true → s.registers.control ≡ None) → (2 ≤ t.tries → IsAtEnd next m) → HeldUp x acknowledged (next ≡ None) l m.memory t → Standing v table x acknowledged l s m next t
  goes : Going table l s.registers t → l.era.side.halves.inn.state ≡ InState.Clear → Standing v table x acknowledged l s m next t

-- ALL IS DONE OF IT: it is spent, and neither a mail, nor a service, nor a packet, nor a control word is left
pub record IsDone {V : Type 0} (v : Server Body (Serving V Body)) (x : Speech Body Asked Reply) (l : Life Body Asked Reply) (s : Slave V Body) (m : Remembered) (next : Option Plan.Service) : Type 0 where
  pub spent : LifeSpent v l s.node
  pub left : NoneLeft x l
  pub end : IsAtEnd next m
  pub control : s.registers.control ≡ None
