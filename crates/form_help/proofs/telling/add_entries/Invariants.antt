use Rattle.std.proofs.Common.{◌≡◌, ◌++◌, drop}
use Rattle.std.specs.List.{flat_map}
use Rattle.form_help.specs.Help.{entry}
use Rattle.form_help.proofs.telling.add_entries.Given as goal

abbrev pub invariant-loop-row : goal.invariant-loop-row
invariant-loop-row l = l.text ++ flat_map (λ row. entry row.now) (drop l.row-index l.rows) ≡ l.fn.text ++ flat_map (λ row. entry row.now) l.rows
