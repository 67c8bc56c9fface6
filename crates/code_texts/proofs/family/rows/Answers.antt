use Rattle.std.proofs.lemmas.Iterator.Consumers.{map_from_collect}
use Rattle.std.proofs.lemmas.Iterator.Splits.{YieldsList-from_lines}
use Rattle.code_texts.specs.Rows.{rows_of}
use Rattle.code_texts.proofs.family.rows.Goals as goal

pub returns : goal.returns
unfolding rows_of
returns c = rw (← c.codes.ensures) (map_from_collect _ c.collect.ensures.ran (YieldsList-from_lines c.codes.result.now c.lines.ensures.rest))
