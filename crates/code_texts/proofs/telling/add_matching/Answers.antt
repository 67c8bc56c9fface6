use Rattle.std.proofs.Common.{◌++◌, List, ℕ, arith, ap, ◌∙◌}
use Rattle.code_texts.specs.Fitting.{fits}
use Rattle.code_texts.specs.Telling.{row_line}
use Rattle.code_texts.proofs.Kept.{all_told, through}
use Rattle.code_texts.proofs.telling.add_matching.Goals as goal

pub returns : goal.returns
returns c =
    all_told (λ row. fits c.args.reading c.args.family c.args.word.now row.now) (λ row. row_line c.args.family row.now) c.args.rows.now c.loop-row.row-index c.args.text.now c.loop-row.text (omega arith) c.loop-row.invariant
    ∙ ap (λ (t : List ℕ). c.args.text.now ++ t) (through (λ row. row.now) (fits c.args.reading c.args.family c.args.word.now) (row_line c.args.family) c.args.rows.now)
