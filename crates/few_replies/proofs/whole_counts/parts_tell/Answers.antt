use Rattle.few_replies.proofs.Whole.{parts_tell, parts_calm}
use Rattle.few_replies.proofs.whole_counts.parts_tell.Goals as goal

pub returns : goal.returns
returns c = record {
  tells = parts_tell;
  calm = λ p is. parts_calm c.parts_are_lawful.ensures p is;
}
