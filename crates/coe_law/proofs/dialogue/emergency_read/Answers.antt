use Rattle.std.proofs.Common.{Result, sym, ap, ◌∙◌}
use Rattle.coe_client.specs.of_protocol_models.CoeMails.{Coe, CoeFault, is_emission}
use Rattle.coe_client.specs.of_protocol_models.CoeOctets.{heard}
use Rattle.coe_law.proofs.dialogue.emergency_read.Goals as goal

pub returns-in-Ok-clause-none : goal.returns-in-Ok-clause-none
returns-in-Ok-clause-none c = λ e. ap (λ (r : Result Coe CoeFault). is_emission (heard c.args.body.now r)) (sym c.in-Ok.ensures.value) ∙ c.emergency_of.ensures.none e

pub returns-in-Err-clause-none : goal.returns-in-Err-clause-none
returns-in-Err-clause-none c = λ e. ap (λ (r : Result Coe CoeFault). is_emission (heard c.args.body.now r)) (sym c.in-Err.ensures.value)
