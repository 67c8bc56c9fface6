-- THE NEWEST SERVICE while a mail that is passed on isn't over.
use Rattle.std.specs.Prelude.{◌≡◌, ℕ, true, Bool, Some, List}
use Rattle.idle_slaves.specs.of_slave_model.Moments.{HasNothing, IsMailsLast}
use Rattle.idle_slaves.specs.of_exchange_model.Exchange.{Exchange, IsLawful}
use Rattle.idle_slaves.specs.of_exchange_model.Rows.{Row}
use Rattle.idle_slaves.specs.of_life_model.Eras.{EraIs}
use Rattle.idle_slaves.specs.of_life_model.Lives.{Era, Spot}
use Rattle.idle_slaves.specs.of_slave_model.Waits.{NeverWaits}
use Rattle.served_rings.specs.of_few_replies.Heard.{EraPasses, LastTold}
use Rattle.idle_slaves.specs.of_segment_model.Ends.{Passing}
use Rattle.idle_slaves.specs.of_segment_model.Record.{Frame}
use Rattle.idle_slaves.specs.of_segment_model.Slaves.{Processor, Registers, Slave}
use Rattle.idle_slaves.specs.of_state_model.Stated.{Stated, IsStated}
use Rattle.idle_slaves.specs.of_state_model.States.{Table}

-- it is by mails
abbrev pub LastPasses : {M Q R : Type 0} → Era M Q R → Type 0
LastPasses e = (p : Passing) → e.passing ≡ Some p → IsMailsLast e.account.started

-- its last reply tells that it is the last
abbrev pub TellsLast : {V A M Q R : Type 0} → Exchange V A M Q R → (M → Bool) → (Q → Bool) → Era M Q R → Type 0
TellsLast {M = M} {Q = Q} {R = R} x more passed e = (row : Row M Q R) → e.side.now ≡ Some row → passed row.service ≡ true → LastTold x more row.service

-- of every epoch of a slave, if no client waits in vain: where nothing is left of the slave, a mail that is passed on awaits no reply behind one
abbrev pub NothingAwaited : (V A M Q R : Type 0) → Type 0
NothingAwaited V A M Q R =
    (x : Exchange V A M Q R) (s : Stated V A Q) (processor : Processor V) (table : ℕ → Table) (spot : Spot) (e : Era M Q R) (opened last : ℕ)
    (fs : List (Frame M)) (v : V) (r : Registers) (slave : Slave V M) (more : M → Bool) (passed : Q → Bool) → IsLawful x → IsStated x s → NeverWaits x →
    EraIs x s processor table spot e opened last fs v r slave → HasNothing x.speech e slave → EraPasses x.speech more passed e → LastPasses e →
    TellsLast x more passed e → e.passing ≡ Some Passing.Answered → ⊥
