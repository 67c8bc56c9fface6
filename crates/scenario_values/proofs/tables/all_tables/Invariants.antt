use Rattle.std.proofs.Common.{map}
use Rattle.toml.specs.Data.{as_table, Members}
use Rattle.toml.specs.View.{view, table_view}
use Rattle.scenario_keys.specs.declared.refusal.Rule.TheVariants.{WrongKind}
use Rattle.scenario_keys.specs.Reading.{wanted}
use Rattle.scenario_keys.proofs.Each.{HasRead}
use Rattle.scenario_values.proofs.tables.all_tables.Given as goal

abbrev pub invariant-loop-value : goal.invariant-loop-value
invariant-loop-value l = HasRead (λ (_ : Members). Unit {0}) (λ _ _. tt {0}) (λ _ _ d. wanted WrongKind l.place (as_table d)) (tt {0}) (map view l.values) l.value-index (tt {0}) (map (λ t. table_view t.now) l.tables.items)
