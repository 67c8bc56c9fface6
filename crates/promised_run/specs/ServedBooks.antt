-- WHAT THE BOOK OF A SERVING HAS OF SCRIPTS AND EPOCHS, as that of a run.
use Rattle.std.specs.Prelude.{◌≢◌, ℕ, map}
use Rattle.gateway_run.specs.Served.{HasAccount}
use Rattle.promised_run.specs.Epochs.{AllCaused}
use Rattle.promised_run.specs.Unsent.{AllUnsent}
use Rattle.gateway_run.specs.of_run_book.declared.book.Book.{Book}
use Rattle.gateway_run.specs.of_run_book.declared.book.Ending.TheVariants as endings
use Rattle.run_promises.specs.of_master_node.Serving.{run_lead}
use Rattle.run_promises.specs.of_segment_plan.declared.plan.Scenario.{Scenario}

-- OF EACH SLAVE just the rest of the plan's script for it, behind the services that came into hand, wasn't sent; and each of its epochs but the first has its cause
-- in the one before it, by which it opens its AL state, as the first opens the slave's start
pub record HasServedBook (plan : Scenario) (count : ℕ) (book : Book) (a : HasAccount plan count book book.ending) : Type 0 where
  pub unsent : AllUnsent plan 0 (map run_lead a.answers.serving.leading.serves) book.slaves
  pub epochs : AllCaused (map run_lead a.answers.serving.leading.serves) book.slaves

-- by each account of it, unless memory ran out
abbrev pub IsServedBooked : Scenario → ℕ → Book → Type 0
IsServedBooked plan count book = book.ending ≢ endings.NoMemory → (a : HasAccount plan count book book.ending) → HasServedBook plan count book a
