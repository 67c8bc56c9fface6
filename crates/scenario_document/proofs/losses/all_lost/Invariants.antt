use Rattle.std.proofs.Common.{ℕ, map}
use Rattle.toml.specs.View.{view}
use Rattle.scenario_document.specs.Losses.{lost_in}
use Rattle.scenario_services.proofs.of_scenario_keys.Each.{HasRead}
use Rattle.scenario_document.proofs.losses.all_lost.Given as goal

abbrev pub invariant-loop-value : goal.invariant-loop-value
invariant-loop-value l = HasRead (λ (_ : ℕ × ℕ). Unit {0}) (λ _ _. tt {0}) (λ _ _ d. lost_in d) (tt {0}) (map view l.values) l.value-index (tt {0}) l.rows
