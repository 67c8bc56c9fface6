-- WHERE ITS BUDGET WAS SPENT a run or a serving wasn't over: not each slave that wasn't given up for good rested, or a packet was left.
use Rattle.std.specs.Prelude.{◌≡◌, ℕ}
use Rattle.gateway_run.specs.Done.{ServedRestAll}
use Rattle.gateway_run.specs.Served.{HasAccount}
use Rattle.gateway_run.specs.of_run_book.declared.book.Book.{Book}
use Rattle.gateway_run.specs.of_run_book.declared.book.Ending.TheVariants as endings
pub use Rattle.gateway_run.specs.of_run_record.Led.{RestAll}
use Rattle.gateway_run.specs.of_run_record.Led.{LedBook}
use Rattle.run_promises.specs.of_segment_plan.declared.plan.Scenario.{Scenario}

-- SOMETHING WAS LEFT TO DO in a run, by the lives that its frames lead to
abbrev pub LeavesSome : (plan : Scenario) (book : Book) → LedBook plan book book.ending → Type 0
LeavesSome plan book led = RestAll plan led.leads book → ⊥

-- in a serving, by each account of it
abbrev pub ServedLeavesSome : Scenario → ℕ → Book → Type 0
ServedLeavesSome plan count book = (a : HasAccount plan count book book.ending) → ServedRestAll plan a.answers.serving.leading.serves book → ⊥

-- so it was where the budget of a run was spent
abbrev pub IsLeft : (plan : Scenario) (book : Book) → LedBook plan book book.ending → Type 0
IsLeft plan book led = book.ending ≡ endings.BudgetSpent → LeavesSome plan book led

-- and where that of a serving was
abbrev pub IsServedLeft : Scenario → ℕ → Book → Type 0
IsServedLeft plan count book = book.ending ≡ endings.BudgetSpent → ServedLeavesSome plan count book
