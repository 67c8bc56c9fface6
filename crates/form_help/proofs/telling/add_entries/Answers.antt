use Rattle.std.proofs.Common.{◌++◌, List, ℕ, arith, ap, sym, ◌∙◌}
use Rattle.std.proofs.lemmas.List.Folds.{flat_map-map}
use Rattle.form_help.specs.Help.{entry}
use Rattle.form_help.proofs.Found.{all_told}
use Rattle.form_help.proofs.telling.add_entries.Goals as goal

pub returns : goal.returns
returns c =
    all_told (λ row. entry row.now) c.args.rows.now c.loop-row.row-index c.args.text.now c.loop-row.text (omega arith) c.loop-row.invariant
    ∙ ap (λ (t : List ℕ). c.args.text.now ++ t) (sym (flat_map-map entry (λ row. row.now) c.args.rows.now))
