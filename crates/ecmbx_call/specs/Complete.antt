-- What a run or a serving comes to whose budget is as many frames as the bound, where no file and no sink has a fault.
use Rattle.std.specs.Prelude.{◌≡◌, ◌≤◌, ◌⊎◌, ℕ, List, Option, Ok}
use Rattle.gateway_stream.specs.of_ec_outside.Faults.{Rose}
use Rattle.gateway_stream.specs.of_ec_outside.Files.{Table}
use Rattle.promised_run.specs.of_gateway_run.Serving.{Told}
use Rattle.tool_call.specs.of_segment_plan.Bound.{bound_of}
use Rattle.tool_call.specs.of_segment_plan.declared.plan.Scenario.{Scenario}
use Rattle.promised_run.specs.of_scenario.Document.{plan_of}
use Rattle.run_report.specs.of_run_book.declared.book.Book.{Book}
use Rattle.run_report.specs.of_run_book.declared.book.Ending.TheVariants as endings
use Rattle.promised_run.specs.Few.{AreFewLost}
use Rattle.promised_run.specs.Promised.{IsPromised, LeavesNothing}
use Rattle.promised_run.specs.Session.{budget_of}
use Rattle.promised_run.specs.ServedBounded.{HearsFair}
use Rattle.tool_call.specs.of_ecmbx_words.declared.form.Form.TheVariants as forms
use Rattle.tool_call.specs.of_ecmbx_words.declared.status.Status.{Status}
use Rattle.tool_call.specs.of_ecmbx_words.declared.status.Status.TheVariants as statuses
use Rattle.tool_call.specs.of_ecmbx_words.Form.{form_in}
use Rattle.ecmbx_call.specs.Causes.{IsFound, IsRunning}
use Rattle.ecmbx_call.specs.Serving.{HasServed}

-- A RUN THAT IS COMPLETE: all is done, or a slave was given up and nothing is left of those that weren't given up for good; and where no more frames in a row are
-- lost than the retry limit, all is done
pub record IsComplete (plan : Scenario) (book : Book) (status : Status) : Type 0 where
  pub promise : IsPromised plan book
  pub ends : ((status ≡ statuses.Done) × LeavesNothing plan book promise.led.leads endings.Done) ⊎ ((status ≡ statuses.GivenUp) × LeavesNothing plan book promise.led.leads endings.GivenUp)
  pub few : AreFewLost plan.lose plan.retry → status ≡ statuses.Done

-- the run of a scenario that is found is complete, with a budget of as many frames as the bound, unless memory runs out
abbrev pub CompletesTo : List (List ℕ) → Option Table → Scenario → Book → Status → Type 0
CompletesTo words table plan book status =
    (octets : List ℕ) → IsRunning words → IsFound words table octets → plan_of octets ≡ Ok plan → bound_of plan 0 ≤ budget_of plan 0 → (status ≡ statuses.NoMemory) ⊎ IsComplete plan book status

-- A SERVING THAT IS COMPLETE: it left nothing, with a slave given up or none, or its port failed; and where no more frames in a row are lost than the retry limit
-- and the port doesn't fail, all is done
pub record IsServedComplete (plan : Scenario) (count : ℕ) (first last : Told) (book : Book) (status : Status) : Type 0 where
  pub did : HasServed plan count first last book
  pub ends : (status ≡ statuses.Done) ⊎ ((status ≡ statuses.GivenUp) ⊎ ((status ≡ statuses.PortFault) × Rose first.faults last.faults))
  pub few : AreFewLost plan.lose plan.retry → ¬ Rose first.faults last.faults → status ≡ statuses.Done

-- the serving of a scenario that is found is complete, with a budget of as many frames as the bound for so many datagrams, where none that was heard asks for a
-- download to 2F01:01, unless memory runs out; so it is never BudgetSpent, whatever frames are lost
abbrev pub CompletesServing : List (List ℕ) → Option Table → Told → Told → Scenario → Book → Status → Type 0
CompletesServing words table first last plan book status =
    (octets : List ℕ) (count : ℕ) → form_in words ≡ forms.Serve count → IsFound words table octets → plan_of octets ≡ Ok plan → bound_of plan count ≤ budget_of plan count → HearsFair book
    → (status ≡ statuses.NoMemory) ⊎ IsServedComplete plan count first last book status
