use Rattle.std.proofs.Common.{arith, ◌∙◌}
use Rattle.form_help.specs.Rows.{name_of}
use Rattle.form_help.proofs.Found.{all_seen, seen_twice}
use Rattle.form_help.proofs.telling.names.Goals as goal

pub returns : goal.returns
returns c = all_seen (λ row. name_of row.now) c.args.rows.now c.loop-row.row-index _ (omega arith) c.loop-row.invariant ∙ seen_twice name_of (λ row. row.now) c.args.rows.now
