use Rattle.std.proofs.lemmas.Result.{err_from_is_err_and}
use Rattle.toml.specs.View.{table_view}
use Rattle.segment_plan.specs.declared.slave.ObjectSpec.{ObjectSpec}
use Rattle.scenario_values.specs.Objects.{object_of}
use Rattle.segment_plan.specs.Sound.{IsObject}
use Rattle.scenario_keys.proofs.Each.{goes_on, ends}
use Rattle.scenario_values.proofs.Rising.{rises_on}
use Rattle.scenario_values.proofs.dictionary.objects.Goals as goal

pub returns-in_err-row-clause-gives : goal.returns-in_err-row-clause-gives
returns-in_err-row-clause-gives c =
    let p = err_from_is_err_and c.from_residual.result c.from_residual.ensures.1 in
    rw (p.1, p.2) (ends IsObject (λ _ (o : ObjectSpec). o.index) (λ k before ms. object_of c.args.slave k before ms) 0 (λ t. table_view t.now) c.args.tables.now c.loop-i.i c.loop-i.before c.loop-i.rows c.index-tables-i.result c.in_err-row.field-0.0 c.loop-i-test.true c.index-tables-i.is c.in_err-row.ensures.gives c.loop-i.invariant.0)

pub loop-i-preserved : goal.loop-i-preserved
loop-i-preserved c = (
  goes_on IsObject (λ _ (o : ObjectSpec). o.index) (λ k before ms. object_of c.args.slave k before ms) 0 (λ t. table_view t.now) c.args.tables.now c.loop-i.i c.loop-i.before c.loop-i.rows c.index-tables-i.result c.in_ok-row.row c.put.new.rows c.loop-i-test.true c.index-tables-i.is c.in_ok-row.ensures.gives c.in_ok-row.ensures.sound c.in_ok-put.ensures.ok c.loop-i.invariant.0,
  rises_on c.loop-i.rows c.in_ok-row.row c.loop-i.before c.put.new.rows c.in_ok-put.ensures.ok c.in_ok-row.ensures.rising c.loop-i.invariant.1,
)
