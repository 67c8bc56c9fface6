use Rattle.std.proofs.Common.{◌≡◌, ◌≤◌, ◌*◌, take}
use Rattle.scenario_values.specs.of_segment_plan.Sound.{taken}
use Rattle.scenario_slaves.proofs.files.taken.Given as goal

abbrev pub invariant-loop-value : goal.invariant-loop-value
invariant-loop-value l = (l.taken ≡ taken (take l.value-index l.files)) × (l.taken ≤ 1024 * l.value-index)
