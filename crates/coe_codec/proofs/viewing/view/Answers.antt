use Rattle.std.proofs.Common.{◌∙◌}
use Rattle.coe_codec.proofs.Only.{read-only}
use Rattle.coe_codec.proofs.viewing.view.Goals as goal

pub returns-clause-only : goal.returns-clause-only
returns-clause-only c = λ message is. c.view_parts.ensures.value ∙ read-only c.args.body.now message is
