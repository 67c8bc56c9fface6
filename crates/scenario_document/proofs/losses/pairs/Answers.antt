use Rattle.std.proofs.Common.{ℤ}
use Rattle.std.proofs.lemmas.Result.{err_from_is_err_and}
use Rattle.toml.specs.View.{view}
use Rattle.scenario_services.specs.of_scenario_keys.declared.place.Place.TheVariants.{Top}
use Rattle.scenario_services.specs.of_scenario_keys.Keys.{two_numbers_in}
use Rattle.scenario_services.proofs.of_scenario_keys.Each.{goes_on, ends, whole}
use Rattle.scenario_services.proofs.of_scenario_keys.Items.{list_of_items_view}
use Rattle.scenario_document.proofs.losses.pairs.Goals as goal

pub returns-in_err-pair_of-clause-gives : goal.returns-in_err-pair_of-clause-gives
returns-in_err-pair_of-clause-gives c =
    let p = err_from_is_err_and c.from_residual.result c.from_residual.ensures.1 in
    rw (p.1, p.2, list_of_items_view c.args.values.now) (ends (λ (_ : ℤ × ℤ). Unit {0}) (λ _ _. tt {0}) (λ _ _ d. two_numbers_in Top d) (tt {0}) view c.args.values.now c.loop-value.value-index (tt {0}) c.loop-value.pairs.items c.value-item.result c.in_err-pair_of.field-0.0 c.loop-value-test.true c.value-item.is c.in_err-pair_of.ensures c.loop-value.invariant)

pub loop-value-preserved : goal.loop-value-preserved
loop-value-preserved c =
    goes_on (λ (_ : ℤ × ℤ). Unit {0}) (λ _ _. tt {0}) (λ _ _ d. two_numbers_in Top d) (tt {0}) view c.args.values.now c.loop-value.value-index (tt {0}) c.loop-value.pairs.items c.value-item.result c.in_ok-pair_of.field-0 c.push.new.self.items c.loop-value-test.true c.value-item.is c.in_ok-pair_of.ensures (tt {0}) c.in_ok-push.ensures.items c.loop-value.invariant

pub returns-clause-gives : goal.returns-clause-gives
returns-clause-gives c =
    rw (list_of_items_view c.args.values.now) (whole (λ (_ : ℤ × ℤ). Unit {0}) (λ _ _. tt {0}) (λ _ _ d. two_numbers_in Top d) (tt {0}) view c.args.values.now c.loop-value.value-index (tt {0}) c.loop-value.pairs.items c.loop-value-test.false c.loop-value.invariant)
