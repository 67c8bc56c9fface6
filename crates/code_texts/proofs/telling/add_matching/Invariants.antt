use Rattle.code_texts.specs.Fitting.{fits}
use Rattle.code_texts.specs.Telling.{row_line}
use Rattle.code_texts.proofs.Kept.{Tells}
use Rattle.code_texts.proofs.telling.add_matching.Given as goal

abbrev pub invariant-loop-row : goal.invariant-loop-row
invariant-loop-row l = Tells (λ row. fits l.reading l.family l.word row.now) (λ row. row_line l.family row.now) l.rows l.row-index l.fn.text l.text
