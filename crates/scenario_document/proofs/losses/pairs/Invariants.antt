use Rattle.std.proofs.Common.{ℤ, map}
use Rattle.toml.specs.View.{view}
use Rattle.scenario_services.specs.of_scenario_keys.declared.place.Place.TheVariants.{Top}
use Rattle.scenario_services.specs.of_scenario_keys.Keys.{two_numbers_in}
use Rattle.scenario_services.proofs.of_scenario_keys.Each.{HasRead}
use Rattle.scenario_document.proofs.losses.pairs.Given as goal

abbrev pub invariant-loop-value : goal.invariant-loop-value
invariant-loop-value l = HasRead (λ (_ : ℤ × ℤ). Unit {0}) (λ _ _. tt {0}) (λ _ _ d. two_numbers_in Top d) (tt {0}) (map view l.values) l.value-index (tt {0}) l.pairs.items
