use Rattle.std.proofs.Common.{◌≡◌, ◌≤◌, drop}
use Rattle.segment_plan.specs.Bound.{slowest_of}
use Rattle.segment_plan.proofs.counts.slowest.Given as goal

abbrev pub invariant-loop-pace : goal.invariant-loop-pace
invariant-loop-pace l = (slowest_of l.slowest (drop l.pace-index l.paces) ≡ slowest_of 0 l.paces) × (l.slowest ≤ 16)
