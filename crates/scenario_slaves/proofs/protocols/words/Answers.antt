use Rattle.std.proofs.Common.{◌≡◌, ◌∙◌, List, ℕ, [], ◌∷◌, ◌++◌, ap, map}
use Rattle.std.proofs.lemmas.List.{map-append}
use Rattle.std.proofs.lemmas.Result.{err_from_is_err_and}
use Rattle.toml.specs.View.{view}
use Rattle.scenario_values.specs.of_scenario_keys.Keys.{text_in}
use Rattle.scenario_values.proofs.of_scenario_keys.Each.{goes_on, ends, whole}
use Rattle.scenario_values.proofs.of_scenario_keys.Items.{list_of_items_view}
use Rattle.scenario_slaves.proofs.protocols.words.Goals as goal

pub returns-in_err-text : goal.returns-in_err-text
returns-in_err-text c =
    let p = err_from_is_err_and c.from_residual.result c.from_residual.ensures.1 in
    rw (p.1, p.2, list_of_items_view c.args.values.now) (ends (λ (_ : List ℕ). Unit {0}) (λ _ _. tt {0}) (λ _ _ d. text_in c.args.place d) (tt {0}) view c.args.values.now c.loop-value.value-index (tt {0}) (map (λ w. w.now) c.loop-value.words.items) c.value-item.result c.in_err-text.field-0.0 c.loop-value-test.true c.value-item.is c.in_err-text.ensures c.loop-value.invariant)

pub loop-value-preserved : goal.loop-value-preserved
loop-value-preserved c =
    let more : map (λ w. w.now) c.push.new.self.items ≡ map (λ w. w.now) c.loop-value.words.items ++ c.in_ok-text.field-0.now ∷ [] =
    ap (map (λ w. w.now)) c.in_ok-push.ensures.items ∙ map-append (λ w. w.now) c.loop-value.words.items (c.in_ok-text.field-0 ∷ []) in
    goes_on (λ (_ : List ℕ). Unit {0}) (λ _ _. tt {0}) (λ _ _ d. text_in c.args.place d) (tt {0}) view c.args.values.now c.loop-value.value-index (tt {0}) (map (λ w. w.now) c.loop-value.words.items) c.value-item.result c.in_ok-text.field-0.now (map (λ w. w.now) c.push.new.self.items) c.loop-value-test.true c.value-item.is c.in_ok-text.ensures (tt {0}) more c.loop-value.invariant

pub returns : goal.returns
returns c =
    rw (list_of_items_view c.args.values.now) (whole (λ (_ : List ℕ). Unit {0}) (λ _ _. tt {0}) (λ _ _ d. text_in c.args.place d) (tt {0}) view c.args.values.now c.loop-value.value-index (tt {0}) (map (λ w. w.now) c.loop-value.words.items) c.loop-value-test.false c.loop-value.invariant)
