use Rattle.std.proofs.Common.{◌≡◌}
use Rattle.scenario_made.specs.Made.{made, times, service}
use Rattle.scenario_made.proofs.text.add_services.Given as goal

abbrev pub invariant-loop : goal.invariant-loop
invariant-loop l = made l.draws.state l.into ≡ times (λ _ m. service m) l.counter (made l.fn.draws.state l.fn.into)
