-- The book of a run with state services: the answer of each service of a slave, from its frames, and when all is done.
use Rattle.std.specs.Prelude.{◌≡◌, ℕ, Bool, Option, None, List, [], ◌∷◌}
use Rattle.segment_model.specs.of_exchange_model.Exchange.{Exchange, Speech}
use Rattle.segment_model.specs.Slaves.{Slave}
use Rattle.segment_model.specs.Record.{Frame}
use Rattle.segment_model.specs.Seats.{Side}
use Rattle.segment_model.specs.Laws.{NothingInHand, IsSettled, WantsNothing}
use Rattle.segment_model.specs.Books.{Answer, answer_from, not_sent, AllEnded}
use Rattle.state_model.specs.States.{Table}
use Rattle.state_model.specs.Stated.{Stated, Service}
use Rattle.state_model.specs.Accounts.{Started, Account}
use Rattle.state_model.specs.Promise.{outcome_of, services_in, but_last, TasksRest}

-- the answers of services that came into hand, and behind them those of so many that did not begin
abbrev pub task_answers : {M Q R : Type 0} → Speech M Q R → (M → Bool) → ℕ → List (Frame M) → List (Started Q) → ℕ → List (Answer R)
task_answers x more station fs [] left = not_sent left
task_answers x more station fs (r ∷ rs) left = answer_from (outcome_of x more station fs r) ∷ task_answers x more station fs rs left

-- of the services of a slave that began only the newest can be in doubt
abbrev pub TasksPast : {V A M Q R : Type 0} → Exchange V A M Q R → (M → Bool) → List (Frame M) → ℕ → V → Side M Q R → Account Q R → Slave V M → Type 0
TasksPast x more fs station start d a n = AllEnded (task_answers x.speech more station fs (but_last a.started) 0)

-- none of them is, where nothing is in hand
abbrev pub TasksEndedIf : {V A M Q R : Type 0} → Exchange V A M Q R → (M → Bool) → List (Frame M) → ℕ → V → Side M Q R → Account Q R → Slave V M → Type 0
TasksEndedIf x more fs station start d a n = a.hand ≡ None → NothingInHand x.speech d d.now → AllEnded (task_answers x.speech more station fs a.started 0)

-- ALL DONE for one slave: it is not given up, all its scripted services have begun and are carried out, and each has ended
pub record TasksDone {V A M Q R : Type 0} (x : Exchange V A M Q R) (s : Stated V A Q) (table : Table) (more : M → Bool) (fs : List (Frame M)) (scripted : List (Service Q))
    (given_up : Option ℕ) (station : ℕ) (start : V) (d : Side M Q R) (a : Account Q R) (n : Slave V M) : Type 0 where
  pub live : given_up ≡ None
  pub begun : services_in a.started ≡ scripted
  pub rests : TasksRest x s table more fs station start d a n
  pub ended : AllEnded (task_answers x.speech more station fs a.started 0)

-- all is done of a slave that is settled, of which the master wants nothing, and of which all scripted services have begun
abbrev pub TasksDoneIf : {V A M Q R : Type 0} → Exchange V A M Q R → Stated V A Q → Table → (M → Bool) → (ℕ → List (Service Q)) → List (Frame M) → ℕ → V → Side M Q R → Account Q R → Slave V M → Type 0
TasksDoneIf x s table more scripted fs station start d a n =
    IsSettled n → WantsNothing x.speech d → a.hand ≡ None → services_in a.started ≡ scripted station → TasksDone x s table more fs (scripted station) None station start d a n
