use Rattle.std.proofs.Common.{refl}
use Rattle.state_model.proofs.ToyLaw.{desk_law, desk_is_stated, both_law}
use Rattle.state_model.proofs.state_exchange.toy_is_lawful.Goals as goal

pub returns-clause-stated : goal.returns-clause-stated
returns-clause-stated c = desk_is_stated

pub returns-clause-lawful : goal.returns-clause-lawful
returns-clause-lawful c = desk_law

pub returns-clause-both : goal.returns-clause-both
returns-clause-both c = both_law

pub returns-clause-gives : goal.returns-clause-gives
returns-clause-gives c = refl

pub returns-clause-comes : goal.returns-clause-comes
returns-clause-comes c = refl

pub returns-clause-counts : goal.returns-clause-counts
returns-clause-counts c = refl

pub returns-clause-executes : goal.returns-clause-executes
returns-clause-executes c = refl

pub returns-clause-replies : goal.returns-clause-replies
returns-clause-replies c = refl
