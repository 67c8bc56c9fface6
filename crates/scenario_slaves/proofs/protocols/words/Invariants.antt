use Rattle.std.proofs.Common.{List, ℕ, map}
use Rattle.toml.specs.View.{view}
use Rattle.scenario_values.specs.of_scenario_keys.Keys.{text_in}
use Rattle.scenario_values.proofs.of_scenario_keys.Each.{HasRead}
use Rattle.scenario_slaves.proofs.protocols.words.Given as goal

abbrev pub invariant-loop-value : goal.invariant-loop-value
invariant-loop-value l = HasRead (λ (_ : List ℕ). Unit {0}) (λ _ _. tt {0}) (λ _ _ d. text_in l.place d) (tt {0}) (map view l.values) l.value-index (tt {0}) (map (λ w. w.now) l.words.items)
