-- A run that isn't cut off and gives no slave up ends with all done.
use Rattle.std.proofs.Common.{◌≡◌, ◌≢◌, ◌<◌, ◌≤◌, length, refl, sym, subst, arith}
use Rattle.promised_run.specs.Bounded.{IsBounded}
use Rattle.promised_run.proofs.Few.{outlived}
use Rattle.gateway_run.specs.of_run_book.declared.book.Book.{Book}
use Rattle.gateway_run.specs.of_run_book.declared.book.Ending.{Ending}
use Rattle.gateway_run.specs.of_run_book.declared.book.Ending.TheVariants as endings
use Rattle.gateway_run.specs.of_run_record.Led.{LedBook}
use Rattle.gateway_run.specs.of_run_record.Ran.{HasFrames, EndsAs}
use Rattle.gateway_run.specs.of_run_record.Session.{budget_of}
use Rattle.run_promises.specs.of_segment_plan.Bound.{bound_of}
use Rattle.run_promises.specs.of_segment_plan.declared.plan.Scenario.{Scenario}

ends_done : (plan : Scenario) (book : Book) (ending : Ending) → EndsAs plan book ending → ending ≢ endings.BudgetSpent → ending ≢ endings.GivenUp → ending ≢ endings.NoMemory → ending ≡ endings.Done
ends_done plan book endings.Done ends cut given memory = refl
ends_done plan book endings.GivenUp ends cut given memory = absurd (given refl)
ends_done plan book endings.BudgetSpent ends cut given memory = absurd (cut refl)
ends_done plan book endings.NoMemory ends cut given memory = absurd (memory refl)
ends_done plan book endings.PortFault ends cut given memory = absurd ends
ends_done plan book endings.Unfinished ends cut given memory = absurd ends

-- one within the bound isn't cut off with as large a budget
not_cut : (plan : Scenario) (book : Book) (ending : Ending) → EndsAs plan book ending → (ending ≢ endings.NoMemory → length book.frames < bound_of plan 0) → bound_of plan 0 ≤ budget_of plan 0 → ending ≢ endings.BudgetSpent
not_cut plan book endings.BudgetSpent ends fewer enough spent = (let less = fewer (λ memory. cc) in omega (arith, less, enough, ends.spent))
not_cut plan book ending ends fewer enough spent = absurd cc

-- by the law of the bound, whichever way it ended
pub bounded : (plan : Scenario) (book : Book) (ending : Ending) → ((e : Ending) → LedBook plan book e → e ≢ endings.NoMemory → length book.frames < bound_of plan 0) → HasFrames plan book → EndsAs plan book ending → book.ending ≡ ending → LedBook plan book ending →
    IsBounded plan book
bounded plan book ending law frames ends is led =
    let mine : EndsAs plan book book.ending = subst (λ (e : Ending). EndsAs plan book e) (sym is) ends in
    let led : LedBook plan book book.ending = subst (λ (e : Ending). LedBook plan book e) (sym is) led in
    let fewer = law book.ending led in
    record {
      fewer = fewer;
      uncut = not_cut plan book book.ending mine fewer;
      done = λ enough few memory. ends_done plan book book.ending mine (not_cut plan book book.ending mine fewer enough) (outlived plan book frames mine led few memory).ending memory;
    }
