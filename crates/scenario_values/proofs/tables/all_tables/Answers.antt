use Rattle.std.proofs.Common.{◌≡◌, ◌∙◌, [], ◌∷◌, ◌++◌, ap, map}
use Rattle.std.proofs.lemmas.List.{map-append}
use Rattle.std.proofs.lemmas.Result.{err_from_is_err_and}
use Rattle.toml.specs.Data.{as_table, Members}
use Rattle.toml.specs.View.{view, table_view}
use Rattle.scenario_keys.specs.declared.refusal.Rule.TheVariants.{WrongKind}
use Rattle.scenario_keys.specs.Reading.{wanted}
use Rattle.scenario_keys.proofs.Each.{goes_on, ends, whole}
use Rattle.scenario_keys.proofs.Items.{list_of_items_view}
use Rattle.scenario_values.proofs.tables.all_tables.Goals as goal

pub returns-in_err-table_of : goal.returns-in_err-table_of
returns-in_err-table_of c =
    let p = err_from_is_err_and c.from_residual.result c.from_residual.ensures.1 in
    rw (p.1, p.2, list_of_items_view c.args.values.now) (ends (λ (_ : Members). Unit {0}) (λ _ _. tt {0}) (λ _ _ d. wanted WrongKind c.args.place (as_table d)) (tt {0}) view c.args.values.now c.loop-value.value-index (tt {0}) (map (λ t. table_view t.now) c.loop-value.tables.items) c.value-item.result c.in_err-table_of.field-0.0 c.loop-value-test.true c.value-item.is c.in_err-table_of.ensures c.loop-value.invariant)

pub loop-value-preserved : goal.loop-value-preserved
loop-value-preserved c =
    let more : map (λ t. table_view t.now) c.push.new.self.items ≡ map (λ t. table_view t.now) c.loop-value.tables.items ++ table_view c.in_ok-table_of.field-0.now ∷ [] =
    ap (map (λ t. table_view t.now)) c.in_ok-push.ensures.items ∙ map-append (λ t. table_view t.now) c.loop-value.tables.items (c.in_ok-table_of.field-0 ∷ []) in
    goes_on (λ (_ : Members). Unit {0}) (λ _ _. tt {0}) (λ _ _ d. wanted WrongKind c.args.place (as_table d)) (tt {0}) view c.args.values.now c.loop-value.value-index (tt {0}) (map (λ t. table_view t.now) c.loop-value.tables.items) c.value-item.result (table_view c.in_ok-table_of.field-0.now) (map (λ t. table_view t.now) c.push.new.self.items) c.loop-value-test.true c.value-item.is c.in_ok-table_of.ensures (tt {0}) more c.loop-value.invariant

pub returns : goal.returns
returns c =
    rw (list_of_items_view c.args.values.now) (whole (λ (_ : Members). Unit {0}) (λ _ _. tt {0}) (λ _ _ d. wanted WrongKind c.args.place (as_table d)) (tt {0}) view c.args.values.now c.loop-value.value-index (tt {0}) (map (λ t. table_view t.now) c.loop-value.tables.items) c.loop-value-test.false c.loop-value.invariant)
