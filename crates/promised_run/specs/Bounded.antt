-- A RUN THAT IS NEVER CUT OFF.
use Rattle.std.specs.Prelude.{◌≡◌, ◌≢◌, ◌<◌, ◌≤◌, length}
use Rattle.promised_run.specs.Few.{AreFewLost}
use Rattle.gateway_run.specs.of_run_book.declared.book.Book.{Book}
use Rattle.gateway_run.specs.of_run_book.declared.book.Ending.TheVariants as endings
use Rattle.gateway_run.specs.of_run_record.Session.{budget_of}
use Rattle.run_promises.specs.of_segment_plan.Bound.{bound_of}
use Rattle.run_promises.specs.of_segment_plan.declared.plan.Scenario.{Scenario}

-- ITS FRAMES ARE FEWER THAN THE BOUND, unless memory runs out. With a budget of as many frames as the bound, as a plan has that gives none and whose bound is no more than a run may send, a run doesn't end by it, whatever
-- frames are lost; and where no more in a row are lost than the retry limit, it ends with all done, unless memory runs out
pub record IsBounded (plan : Scenario) (book : Book) : Type 0 where
  pub fewer : book.ending ≢ endings.NoMemory → length book.frames < bound_of plan 0
  pub uncut : bound_of plan 0 ≤ budget_of plan 0 → book.ending ≢ endings.BudgetSpent
  pub done : bound_of plan 0 ≤ budget_of plan 0 → AreFewLost plan.lose plan.retry → book.ending ≢ endings.NoMemory → book.ending ≡ endings.Done
