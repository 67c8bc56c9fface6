use Rattle.std.proofs.Common.{◌∙◌}
use Rattle.datagrams.proofs.Building.{closed_text, IsFrame-finished}
use Rattle.datagrams.proofs.writing.finish.Goals as goal

pub returns-clause-text : goal.returns-clause-text
returns-clause-text c = λ ds b. c.finish_plain.ensures ∙ closed_text _ ds b

pub returns-clause-reads : goal.returns-clause-reads
returns-clause-reads c = λ ds b some named. IsFrame-finished _ _ ds b c.finish_plain.ensures some named

pub returns-clause-ended : goal.returns-clause-ended
returns-clause-ended c = λ draft. record {
  text = c.finish_plain.ensures ∙ closed_text _ _ draft.begun;
  reads = λ some. IsFrame-finished _ _ _ draft.begun c.finish_plain.ensures some draft.named;
}
