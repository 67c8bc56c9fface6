use Rattle.coe_law.proofs.Hearing.{no_emergency}
use Rattle.coe_law.proofs.dialogue.emergency_of.Goals as goal

pub returns-in_default-clause-none : goal.returns-in_default-clause-none
returns-in_default-clause-none c = λ e. no_emergency c.args.message c.in_default.not-Emergency
