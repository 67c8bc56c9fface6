use Rattle.std.proofs.Common.{◌≡◌, ◌≤◌, drop}
use Rattle.scenario_services.specs.of_segment_plan.Sound.{are_lost_from}
use Rattle.scenario_document.proofs.judging.are_lost.Given as goal

abbrev pub invariant-loop-frame : goal.invariant-loop-frame
invariant-loop-frame l = (are_lost_from l.slaves l.least (drop l.frame-index l.lose) ≡ are_lost_from l.slaves 0 l.lose) × (l.least ≤ 4294967296)
