use Rattle.std.proofs.Common.{map}
use Rattle.toml.specs.View.{table_view}
use Rattle.scenario_slaves.specs.Slave.{slave_of}
use Rattle.scenario_slaves.specs.Distinct.{IsRead}
use Rattle.scenario_values.proofs.of_scenario_keys.Each.{HasRead}
use Rattle.scenario_slaves.proofs.ring.slaves.Given as goal

abbrev pub invariant-loop-i : goal.invariant-loop-i
invariant-loop-i l = HasRead IsRead (λ _ _. tt {0}) (λ k _ ms. slave_of l.version k ms) (tt {0}) (map (λ t. table_view t.now) l.tables) l.i (tt {0}) l.rows
