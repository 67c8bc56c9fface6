use Rattle.std.proofs.Common.{◌≡◌}
use Rattle.scenario_made.specs.Made.{made, times, pair}
use Rattle.scenario_made.proofs.text.add_pairs.Given as goal

abbrev pub invariant-loop-number : goal.invariant-loop-number
invariant-loop-number l = made l.draws.state l.into ≡ times pair l.number (made l.fn.draws.state l.fn.into)
