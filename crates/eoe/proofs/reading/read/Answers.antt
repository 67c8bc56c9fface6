use Rattle.std.proofs.Common.{◌∙◌, ap, Ok}
use Rattle.eoe.proofs.reading.read.Goals as goal

pub returns-in-Ok-clause-only : goal.returns-in-Ok-clause-only
returns-in-Ok-clause-only c = λ eoe is. ap (λ x. Ok x) c.message_of.ensures ∙ c.in-Ok.ensures.only eoe is
