-- How many frames a run has.
use Rattle.std.proofs.Common.{◌≡◌, ℕ, ◌≤◌, length, nat_lt, Bool, true, false, Option, Some, None, IfSome, refl, arith, if◌then◌else◌}
use Rattle.std.proofs.lemmas.Bool.{ltb-true}
use Rattle.tool_call.specs.of_segment_plan.declared.plan.Scenario.{Scenario}
use Rattle.tool_call.specs.of_segment_plan.Sound.{IsPlan}
use Rattle.tool_call.specs.of_segment_plan.Bound.{bound_of}
use Rattle.run_report.specs.of_run_book.declared.book.Book.{Book}
use Rattle.promised_run.specs.Session.{budget_or}
use Rattle.promised_run.specs.Ran.{HasFrames}

small_by : (frames : ℕ) (less : Bool) → nat_lt frames 100000000 ≡ less → (if less then frames else 100000000) ≤ 100000000
small_by frames true is = omega (arith, ltb-true frames 100000000 is)
small_by frames false is = omega arith

small_budget : (bound : ℕ) (budget : Option ℕ) → IfSome budget (λ frames. (1 ≤ frames) × (frames ≤ 100000000)) → budget_or budget bound ≤ 100000000
small_budget bound (Some frames) h = h.1
small_budget bound None h = small_by bound (nat_lt bound 100000000) refl

-- no run has more than 100,000,000 frames
pub few_frames : (plan : Scenario) (book : Book) → IsPlan plan → HasFrames plan book → length book.frames ≤ 100000000
few_frames plan book sound frames = omega (arith, frames.few, small_budget (bound_of plan 0) plan.budget sound.laid.budget)
