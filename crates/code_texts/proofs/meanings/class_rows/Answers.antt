use Rattle.std.proofs.lemmas.Iterator.Consumers.{map_from_collect}
use Rattle.std.proofs.lemmas.Iterator.Splits.{YieldsList-from_lines}
use Rattle.code_texts.specs.declared.services.TheConstants.{CLASSES}
use Rattle.code_texts.proofs.meanings.class_rows.Goals as goal

pub returns : goal.returns
returns c = map_from_collect _ c.collect.ensures.ran (YieldsList-from_lines CLASSES.now c.lines.ensures.rest)
