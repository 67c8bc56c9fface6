use Rattle.std.proofs.lemmas.Result.{err_from_is_err_and}
use Rattle.toml.specs.View.{table_view}
use Rattle.scenario_services.specs.Services.{service_of}
use Rattle.scenario_services.specs.Reading.{IsRead}
use Rattle.scenario_services.proofs.Appended.{appended, stopped}
use Rattle.scenario_values.proofs.of_scenario_keys.Each.{goes_on, ends}
use Rattle.scenario_services.proofs.reading.services.Goals as goal

pub returns-in_err-add_service-clause-gives : goal.returns-in_err-add_service-clause-gives
returns-in_err-add_service-clause-gives c =
    let p = err_from_is_err_and c.from_residual.result c.from_residual.ensures.1 in
    let read = service_of c.args.slaves.now c.loop-i.i (table_view c.index-tables-i.result.now) in
    rw (p.1, p.2) (ends (IsRead c.args.slaves.now) (λ _ _. tt {0}) (λ k _ ms. service_of c.args.slaves.now k ms) (tt {0}) (λ t. table_view t.now) c.args.tables.now c.loop-i.i (tt {0}) c.loop-i.rows c.index-tables-i.result c.in_err-add_service.field-0.0 c.loop-i-test.true c.index-tables-i.is (stopped read c.loop-i.rows c.in_err-add_service.field-0.0 c.in_err-add_service.ensures.gives) c.loop-i.invariant)

pub loop-i-preserved : goal.loop-i-preserved
loop-i-preserved c =
    let read = service_of c.args.slaves.now c.loop-i.i (table_view c.index-tables-i.result.now) in
    let row = appended (IsRead c.args.slaves.now) read c.loop-i.rows c.add_service.new.rows c.in_ok-add_service.ensures.gives c.in_ok-add_service.ensures.sound in
    goes_on (IsRead c.args.slaves.now) (λ _ _. tt {0}) (λ k _ ms. service_of c.args.slaves.now k ms) (tt {0}) (λ t. table_view t.now) c.args.tables.now c.loop-i.i (tt {0}) c.loop-i.rows c.index-tables-i.result row.0 c.add_service.new.rows c.loop-i-test.true c.index-tables-i.is row.1 row.2 row.3 c.loop-i.invariant

pub returns-clause-sound : goal.returns-clause-sound
returns-clause-sound c k d lt = (c.loop-i.invariant.sound k d lt).addressed

pub returns-clause-fits : goal.returns-clause-fits
returns-clause-fits c k d lt = (c.loop-i.invariant.sound k d lt).fits
