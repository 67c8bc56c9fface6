-- THE AL STATE OF A SLAVE THAT IS OPEN, in its registers and in its server.
use Rattle.std.specs.Prelude.{◌≡◌, Option}
use Rattle.idle_slaves.specs.of_exchange_model.Exchange.{Exchange}
use Rattle.idle_slaves.specs.of_segment_model.Slaves.{Slave}
use Rattle.idle_slaves.specs.of_state_model.Stated.{Stated}
use Rattle.idle_slaves.specs.of_state_model.States.{Table, carry}
use Rattle.idle_slaves.specs.Steps.{NotGone}
use Rattle.idle_slaves.specs.of_state_model.Accounts.{Duty}

-- the word that is carried out leaves it while no state service is past its drain; and its server stands in it
pub record IsStanding {V A M Q R : Type 0} (x : Exchange V A M Q R) (s : Stated V A Q) (table : Table) (hand : Option Duty) (n : Slave V M) : Type 0 where
  pub state : NotGone hand → (carry table n.registers).state ≡ n.registers.state
  pub stands : s.state (x.app n.node.server.server) ≡ n.registers.state
