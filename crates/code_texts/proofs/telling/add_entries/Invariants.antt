use Rattle.std.proofs.Common.{◌≡◌, ◌++◌, drop}
use Rattle.std.specs.List.{flat_map}
use Rattle.code_texts.specs.Telling.{row_entry}
use Rattle.code_texts.proofs.telling.add_entries.Given as goal

abbrev pub invariant-loop-row : goal.invariant-loop-row
invariant-loop-row l = l.text ++ flat_map (λ row. row_entry row.now) (drop l.row-index l.rows) ≡ l.fn.text ++ flat_map (λ row. row_entry row.now) l.rows
