use Rattle.std.proofs.lemmas.Iterator.Consumers.{map_from_collect}
use Rattle.std.proofs.lemmas.Iterator.Splits.{YieldsList-from_lines}
use Rattle.form_help.specs.Rows.{rows_of}
use Rattle.form_help.proofs.telling.rows.Goals as goal

pub returns : goal.returns
unfolding rows_of
returns c = map_from_collect _ c.collect.ensures.ran (YieldsList-from_lines c.args.forms.now c.lines.ensures.rest)
