-- A state service that has drained: its slave has carried out all services by mails before it.
use Rattle.std.specs.Prelude.{◌≡◌, ◌+◌, Some}
use Rattle.slave_parts.specs.of_state_model.Accounts.{Duty, Stage}
use Rattle.slave_parts.specs.of_state_model.Promise.{services_in, mails_in}
use Rattle.slave_parts.specs.of_state_model.States.{Phase}
use Rattle.slave_parts.specs.of_life_model.Eras.{OpenEra}

-- A STATE SERVICE IS IN HAND, and has drained: mailbox 0 was seen empty
pub record DrainedDuty {V A M Q R : Type 0} (w : OpenEra V A M Q R) : Type 0 where
  pub duty : Duty
  pub hand : w.era.account.hand ≡ Some duty
  pub phase : Phase
  pub stage : duty.stage ≡ Stage.Goes phase

-- ALL SERVICES BY MAILS that began in the epoch are carried out
abbrev pub AllMailsDone : {V A M Q R : Type 0} → OpenEra V A M Q R → Type 0
AllMailsDone w = w.exchange.handled w.slave.node.server.server ≡ w.exchange.handled w.server + mails_in (services_in w.era.account.started)
