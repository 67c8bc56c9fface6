-- A STEP OF A SLAVE'S PROCESSOR while no state service is past its drain.
use Rattle.std.specs.Prelude.{◌≡◌, Option, Some, None, ⊤}
use Rattle.plan_ring.specs.of_exchange_model.Exchange.{Exchange}
use Rattle.plan_ring.specs.of_link_model.Slave.{processor_step}
use Rattle.plan_ring.specs.of_segment_model.Slaves.{Processor, Slave, serving, slave_steps}
use Rattle.plan_ring.specs.of_state_model.States.{Table, carry}
use Rattle.plan_ring.specs.of_state_model.Accounts.{Duty, Stage}

-- a stage of a state service that isn't past its drain
abbrev pub Drains : Stage → Type 0
Drains Stage.Drains = ⊤
Drains (Stage.Goes phase) = ⊥

-- none is in hand, or one that drains
abbrev pub NotGone : Option Duty → Type 0
NotGone None = ⊤
NotGone (Some duty) = Drains duty.stage

-- the processor carries out words by the slave's table; and while no state service is past its drain its step is that of the mailboxes alone
pub record StepsAlone {V A M Q R : Type 0} (x : Exchange V A M Q R) (processor : Processor V) (table : Table) (hand : Option Duty) (n : Slave V M) : Type 0 where
  pub registers : (slave_steps x processor n).registers ≡ carry table n.registers
  pub node : NotGone hand → (slave_steps x processor n).node ≡ processor_step (serving x) n.node
