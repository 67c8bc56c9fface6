-- WHAT AN OPEN SLAVE IS TO A MASTER that passes mails on beside services.
use Rattle.std.specs.Prelude.{◌≡◌, ℕ, Bool, false, Some, None, []}
use Rattle.idle_slaves.specs.of_slave_model.Moments.{IsFree, NoneLeft}
use Rattle.idle_slaves.specs.of_exchange_model.Exchange.{Exchange, Speech}
use Rattle.idle_slaves.specs.of_exchange_model.Rows.{Row, ends_unheard, left}
use Rattle.idle_slaves.specs.Going.{IsCome}
use Rattle.idle_slaves.specs.Links.{HasLink}
use Rattle.idle_slaves.specs.Steps.{StepsAlone}
use Rattle.idle_slaves.specs.of_life_model.Lives.{Era}
use Rattle.idle_slaves.specs.of_link_model.Master.{InState}
use Rattle.served_rings.specs.of_few_replies.Heard.{EraPasses}
use Rattle.idle_slaves.specs.of_segment_model.Ends.{Passing}
use Rattle.idle_slaves.specs.of_segment_model.Laws.{IsSettled}
use Rattle.idle_slaves.specs.of_segment_model.Slaves.{Processor, Slave}
use Rattle.seen_slaves.specs.Last.{LastPasses}
use Rattle.idle_slaves.specs.of_state_model.States.{Phase, Table}
use Rattle.idle_slaves.specs.of_state_model.Accounts.{Duty, Stage}

-- NOTHING IS LEFT of a slave: it is settled, and its master has no mail and no state service in hand, nothing in doubt and nothing to tell
pub record HasNone {V M Q R : Type 0} (y : Speech M Q R) (e : Era M Q R) (n : Slave V M) : Type 0 where
  pub settled : IsSettled n
  pub held : e.side.halves.out.holding ≡ None
  pub clear : e.side.halves.inn.state ≡ InState.Clear
  pub hand : e.account.hand ≡ None
  pub left : NoneLeft y e.side

-- ITS MAILBOXES agree with its master's halves, its steps and its AL state are by its table; what has its answer was told whole; and where nothing is left of it
-- its newest service is over, and no mail that is passed on awaits a reply behind the first
pub record FitsSo {V A M Q R : Type 0} (u : Exchange V A M Q R) (processor : Processor V) (table : Table) (y : Speech M Q R) (acknowledged : Q → Bool) (more : M → Bool) (passed : Q → Bool) (e : Era M Q R) (n : Slave V M) : Type 0 where
  pub link : HasLink e.side n
  pub alone : StepsAlone u processor table e.account.hand n
  pub come : (duty : Duty) (phase : Phase) → e.account.hand ≡ Some duty → duty.stage ≡ Stage.Goes phase → IsCome M R table duty.target phase n.registers
  pub told : e.account.hand ≡ None → (r : Row M Q R) → e.side.now ≡ Some r → (answer : R × ℕ) → r.answer ≡ Some answer → ends_unheard y acknowledged r ≡ false → (left y r ≡ []) × (e.side.fresh ≡ false)
  pub free : HasNone y e n → IsFree y acknowledged e.side
  pub awaits : HasNone y e n → EraPasses y more passed e → LastPasses e → e.passing ≡ Some Passing.Answered → ⊥
