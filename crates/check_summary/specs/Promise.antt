-- What a run of a plan promises of its services.
use Rattle.std.specs.Prelude.{ℕ, ◌-◌, ◌≤◌, nat_lt, Bool, false, List, ◌++◌, codes, decimal, Option, Some, None, IfSome, if◌then◌else◌}
use Rattle.segment_plan.specs.Bound.{bound_of}
use Rattle.segment_plan.specs.declared.plan.Scenario.{Scenario}
use Rattle.check_summary.specs.declared.losses.Row.{Row}
use Rattle.check_summary.specs.declared.promise.Promise.{Promise}
use Rattle.check_summary.specs.declared.promise.Promise.TheVariants as promises
use Rattle.check_summary.specs.declared.promise.TheConstants.{CUT_OFF, AT_MOST_ONCE, ANSWERED}
use Rattle.check_summary.specs.Losses.{count_of, longest_row}

-- a budget below the bound
abbrev pub is_cut_off : Option ℕ → ℕ → Bool
is_cut_off (Some budget) bound = nat_lt budget bound
is_cut_off None bound = false

-- a budget that reaches the bound, where one is given
abbrev pub HasEnough : Scenario → Type 0
HasEnough plan = IfSome plan.budget (λ budget. bound_of plan 0 ≤ budget)

-- more frames in a row than a slave outlives, or none
abbrev pub outlived : ℕ → Row → Promise
outlived retry row = if nat_lt retry (count_of row) then promises.Lost row else promises.Answered

-- WHAT A RUN PROMISES: the first that applies
unfoldable pub promise_of : Scenario → Promise
promise_of plan = if is_cut_off plan.budget (bound_of plan 0) then promises.CutOff else outlived plan.retry (longest_row plan.lose)

-- the line of frames that may be more than a slave outlives
unfoldable pub lost_text : Row → List ℕ
lost_text row = AT_MOST_ONCE.now ++ (decimal row.first ++ (codes " to " ++ (decimal (row.behind - 1) ++ codes " may be more than a slave outlives\n")))

-- the line of a promise
unfoldable pub promise_text : Promise → List ℕ
promise_text promises.CutOff = CUT_OFF.now
promise_text (promises.Lost row) = lost_text row
promise_text promises.Answered = ANSWERED.now
