use Rattle.std.proofs.Common.{◌≡◌, ◌++◌, drop, map}
use Rattle.form_help.specs.Rows.{name_of}
use Rattle.form_help.proofs.telling.names.Given as goal

abbrev pub invariant-loop-row : goal.invariant-loop-row
invariant-loop-row l = map (λ name. name.now) l.names.items ++ map (λ row. name_of row.now) (drop l.row-index l.rows) ≡ map (λ row. name_of row.now) l.rows
