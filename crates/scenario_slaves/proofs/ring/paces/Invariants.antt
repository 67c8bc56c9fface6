use Rattle.std.proofs.Common.{map}
use Rattle.toml.specs.View.{table_view}
use Rattle.scenario_slaves.specs.Settings.{pace_at}
use Rattle.scenario_values.specs.of_scenario_keys.declared.place.Place.TheVariants.{Slave}
use Rattle.scenario_values.specs.of_segment_plan.Sound.{IsPace}
use Rattle.scenario_values.proofs.of_scenario_keys.Each.{HasRead}
use Rattle.scenario_slaves.proofs.ring.paces.Given as goal

abbrev pub invariant-loop-i : goal.invariant-loop-i
invariant-loop-i l = HasRead IsPace (λ _ _. tt {0}) (λ k _ ms. pace_at l.version (Slave k) ms) (tt {0}) (map (λ t. table_view t.now) l.tables) l.i (tt {0}) l.rows
