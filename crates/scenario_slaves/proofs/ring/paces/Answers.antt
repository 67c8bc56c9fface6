use Rattle.std.proofs.lemmas.Result.{err_from_is_err_and}
use Rattle.toml.specs.View.{table_view}
use Rattle.scenario_slaves.specs.Settings.{pace_at}
use Rattle.scenario_values.specs.of_scenario_keys.declared.place.Place.TheVariants.{Slave}
use Rattle.scenario_values.specs.of_segment_plan.Sound.{IsPace}
use Rattle.scenario_values.proofs.of_scenario_keys.Each.{goes_on, ends}
use Rattle.scenario_slaves.proofs.ring.paces.Goals as goal

pub returns-in_err-row-clause-gives : goal.returns-in_err-row-clause-gives
returns-in_err-row-clause-gives c =
    let p = err_from_is_err_and c.from_residual.result c.from_residual.ensures.1 in
    rw (p.1, p.2) (ends IsPace (λ _ _. tt {0}) (λ k _ ms. pace_at c.args.version (Slave k) ms) (tt {0}) (λ t. table_view t.now) c.args.tables.now c.loop-i.i (tt {0}) c.loop-i.rows c.index-tables-i.result c.in_err-row.field-0.0 c.loop-i-test.true c.index-tables-i.is c.in_err-row.ensures.gives c.loop-i.invariant)

pub loop-i-preserved : goal.loop-i-preserved
loop-i-preserved c =
    goes_on IsPace (λ _ _. tt {0}) (λ k _ ms. pace_at c.args.version (Slave k) ms) (tt {0}) (λ t. table_view t.now) c.args.tables.now c.loop-i.i (tt {0}) c.loop-i.rows c.index-tables-i.result c.in_ok-row.row c.put.new.rows c.loop-i-test.true c.index-tables-i.is c.in_ok-row.ensures.gives c.in_ok-row.ensures.within c.in_ok-put.ensures.ok c.loop-i.invariant
