use Rattle.std.proofs.Common.{◌++◌, List, ℕ, arith, ap, sym, ◌∙◌}
use Rattle.std.proofs.lemmas.List.Folds.{flat_map-map}
use Rattle.code_texts.specs.Telling.{row_entry}
use Rattle.code_texts.proofs.Kept.{entries_told}
use Rattle.code_texts.proofs.telling.add_entries.Goals as goal

pub returns : goal.returns
returns c =
    entries_told (λ row. row_entry row.now) c.args.rows.now c.loop-row.row-index c.args.text.now c.loop-row.text (omega arith) c.loop-row.invariant
    ∙ ap (λ (t : List ℕ). c.args.text.now ++ t) (sym (flat_map-map row_entry (λ row. row.now) c.args.rows.now))
