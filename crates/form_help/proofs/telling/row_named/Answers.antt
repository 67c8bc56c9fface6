use Rattle.form_help.specs.Rows.{is_named, row_named}
use Rattle.form_help.proofs.Found.{copied_seen}
use Rattle.form_help.proofs.telling.row_named.Goals as goal

pub returns : goal.returns
unfolding row_named
returns c = copied_seen (is_named c.args.word.now) c.args.rows.now c.find_row.result c.copied.result c.find_row.ensures c.copied.ensures
