use Rattle.std.proofs.Common.{◌≡◌}
use Rattle.scenario_made.specs.Made.{made, times, octet}
use Rattle.scenario_made.proofs.parts.add_octets.Given as goal

abbrev pub invariant-loop : goal.invariant-loop
invariant-loop l = made l.draws.state l.into ≡ times (λ _ o. octet o) l.counter (made l.fn.draws.state l.fn.into)
