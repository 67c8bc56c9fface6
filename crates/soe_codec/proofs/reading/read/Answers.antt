use Rattle.std.proofs.Common.{◌∙◌, ap, Ok}
use Rattle.soe_codec.proofs.reading.read.Goals as goal

pub returns-in-Ok-clause-only : goal.returns-in-Ok-clause-only
returns-in-Ok-clause-only c = λ soe is. ap (λ x. Ok x) c.message_of.ensures ∙ c.in-Ok.ensures.only soe is
