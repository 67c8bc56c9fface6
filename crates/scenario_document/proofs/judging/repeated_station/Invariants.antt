use Rattle.std.proofs.Common.{◌≡◌, [], drop, take}
use Rattle.scenario_services.specs.of_segment_plan.Sound.{repeated_from, is_same_station}
use Rattle.scenario_document.proofs.judging.repeated_station.Given as goal

abbrev pub invariant-loop-i : goal.invariant-loop-i
invariant-loop-i l = repeated_from is_same_station (take l.i l.slaves) l.i (drop l.i l.slaves) ≡ repeated_from is_same_station [] 0 l.slaves
