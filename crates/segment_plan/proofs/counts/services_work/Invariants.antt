use Rattle.std.proofs.Common.{◌≡◌, ◌≤◌, ◌*◌, ◌^◌, sum_by, take}
use Rattle.segment_plan.specs.Bound.{addressed_work}
use Rattle.segment_plan.proofs.counts.services_work.Given as goal

abbrev pub invariant-loop-slave : goal.invariant-loop-slave
invariant-loop-slave l = (l.work ≡ sum_by (addressed_work l.slaves) (take l.slave-index l.services)) × (l.work ≤ 2 ^ 34 * l.slave-index)
