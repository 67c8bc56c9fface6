use Rattle.std.proofs.Common.{◌∙◌, ap, Ok}
use Rattle.coe_codec.proofs.reading.read.Goals as goal

pub returns-in-Ok-clause-only : goal.returns-in-Ok-clause-only
returns-in-Ok-clause-only c = λ message is. ap (λ x. Ok x) c.message_of.ensures ∙ c.in-Ok.ensures.only message is
