-- What is told of a plan that can be run.
use Rattle.std.specs.Prelude.{ℕ, ◌+◌, ◌-◌, ◌==◌, List, [], ◌∷◌, ◌++◌, codes, decimal, length, slice_get, Option, Some, None, unwrap_or, if◌then◌else◌}
use Rattle.segment_plan.specs.Bound.{bound_of}
use Rattle.segment_plan.specs.declared.plan.Scenario.{Scenario}
use Rattle.segment_plan.specs.declared.slave.SlaveSpec.{SlaveSpec}
use Rattle.check_summary.specs.Losses.{count_of, longest_row}
use Rattle.check_summary.specs.Numbers.{counted}
use Rattle.check_summary.specs.Promise.{promise_of, promise_text}
use Rattle.check_summary.specs.Slaves.{services_of, slave_line}

-- after how many frames the slave of a number makes a step
abbrev pub pace_of : List ℕ → ℕ → ℕ
pace_of paces number = unwrap_or (slice_get paces number) 1

-- the lines of some slaves, numbered from here on
abbrev pub slave_lines_from : Scenario → ℕ → List SlaveSpec → List ℕ
slave_lines_from plan number [] = []
slave_lines_from plan number (s ∷ slaves) =
    slave_line s (pace_of plan.paces number) (services_of plan.services number) ++ slave_lines_from plan (number + 1) slaves

-- the lines of the slaves
abbrev pub slave_lines : Scenario → List ℕ
slave_lines plan = slave_lines_from plan 0 plan.slaves

-- the packets of the host, where there are some
unfoldable pub host_line : ℕ → List ℕ
host_line packets = if packets == 0 then [] else codes "host: " ++ (counted packets (codes "packet") (codes "packets") ++ codes "\n")

-- how many frames are lost, and the last
unfoldable pub many_text : ℕ → ℕ → List ℕ
many_text many last = decimal many ++ (codes ", the last is frame " ++ decimal last)

-- how many follow each other at most, and how many a slave outlives
unfoldable pub row_text : ℕ → ℕ → List ℕ
row_text count retry = codes "; at most " ++ (decimal count ++ (codes " in a row, and a slave outlives " ++ (decimal retry ++ codes "\n")))

-- what is told of lost frames
abbrev pub losses_text : List (ℕ × ℕ) → ℕ → Option (ℕ × ℕ) → List ℕ
losses_text lose retry None = codes "none\n"
losses_text lose retry (Some last) = many_text (length lose) last.0 ++ row_text (count_of (longest_row lose)) retry

-- the line of the lost frames
unfoldable pub losses_line : List (ℕ × ℕ) → ℕ → List ℕ
losses_line lose retry = codes "lost frames: " ++ losses_text lose retry (slice_get lose (length lose - 1))

-- a budget
abbrev pub budget_text : Option ℕ → List ℕ
budget_text None = []
budget_text (Some budget) = codes ", budget " ++ decimal budget

-- the frame bound, and the budget where one is given
unfoldable pub bound_line : ℕ → Option ℕ → List ℕ
bound_line bound budget = codes "frame bound: " ++ (decimal bound ++ (budget_text budget ++ codes "\n"))

-- the name of the file, the slaves and the packets of the host
unfoldable pub plan_lines : List ℕ → Scenario → List ℕ
plan_lines name plan = codes "ok " ++ (name ++ (codes "\n" ++ (slave_lines plan ++ host_line (length plan.host))))

-- THE LINES OF A PLAN, under the name of its file
unfoldable pub summary : List ℕ → Scenario → List ℕ
summary name plan =
    plan_lines name plan ++ (losses_line plan.lose plan.retry ++ (bound_line (bound_of plan 0) plan.budget ++ promise_text (promise_of plan)))
