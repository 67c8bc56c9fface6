use Rattle.std.proofs.Common.{ℕ}
use Rattle.std.proofs.lemmas.Result.{err_from_is_err_and}
use Rattle.toml.specs.View.{view}
use Rattle.scenario_document.specs.Losses.{lost_in}
use Rattle.scenario_services.proofs.of_scenario_keys.Each.{goes_on, ends, whole}
use Rattle.scenario_services.proofs.of_scenario_keys.Items.{list_of_items_view}
use Rattle.scenario_document.proofs.losses.all_lost.Goals as goal

pub returns-in_err-lost-clause-gives : goal.returns-in_err-lost-clause-gives
returns-in_err-lost-clause-gives c =
    let p = err_from_is_err_and c.from_residual.result c.from_residual.ensures.1 in
    rw (p.1, p.2, list_of_items_view c.args.values.now) (ends (λ (_ : ℕ × ℕ). Unit {0}) (λ _ _. tt {0}) (λ _ _ d. lost_in d) (tt {0}) view c.args.values.now c.loop-value.value-index (tt {0}) c.loop-value.rows c.value-item.result c.in_err-lost.field-0.0 c.loop-value-test.true c.value-item.is c.in_err-lost.ensures c.loop-value.invariant)

pub loop-value-preserved : goal.loop-value-preserved
loop-value-preserved c =
    goes_on (λ (_ : ℕ × ℕ). Unit {0}) (λ _ _. tt {0}) (λ _ _ d. lost_in d) (tt {0}) view c.args.values.now c.loop-value.value-index (tt {0}) c.loop-value.rows c.value-item.result c.in_ok-lost.field-0 c.put.new.rows c.loop-value-test.true c.value-item.is c.in_ok-lost.ensures (tt {0}) c.in_ok-put.ensures.ok c.loop-value.invariant

pub returns-clause-gives : goal.returns-clause-gives
returns-clause-gives c =
    rw (list_of_items_view c.args.values.now) (whole (λ (_ : ℕ × ℕ). Unit {0}) (λ _ _. tt {0}) (λ _ _ d. lost_in d) (tt {0}) view c.args.values.now c.loop-value.value-index (tt {0}) c.loop-value.rows c.loop-value-test.false c.loop-value.invariant)
