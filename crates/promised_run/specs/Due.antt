-- EACH MAIL THAT WAS ACCEPTED over a serving WAS DUE.
use Rattle.std.specs.Prelude.{ℕ}
use Rattle.gateway_run.specs.Served.{HasAccount}
use Rattle.gateway_run.specs.of_run_book.declared.book.Book.{Book}
use Rattle.gateway_run.specs.of_run_book.declared.book.Ending.{Ending}
use Rattle.gateway_run.specs.of_run_record.Written.{WereServedDue}
use Rattle.run_promises.specs.of_segment_plan.declared.plan.Scenario.{Scenario}

-- by each account of its book: it replies to nothing, or no service by mails of the epoch came into hand before, or it is of the reply that the newest one still awaits
abbrev pub IsServedDue : Scenario → ℕ → Book → Type 0
IsServedDue plan count book = (ending : Ending) (a : HasAccount plan count book ending) → WereServedDue a.answers.serving.leading.lives
