use Rattle.few_replies.proofs.OfShape.{counted}
use Rattle.few_replies.proofs.service_counts.shape_counts.Goals as goal

pub returns : goal.returns
returns c = λ p is. counted c.parts_are_lawful.ensures p is
