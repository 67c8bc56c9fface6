use Rattle.std.proofs.Common.{refl}
use Rattle.slave_app.proofs.ToyLaw.{drawer_kind, drawer_lawful, drawer_spelled, slave_law}
use Rattle.slave_app.proofs.coe_states.toy_is_lawful.Goals as goal

pub returns-clause-kind : goal.returns-clause-kind
returns-clause-kind c = drawer_kind

pub returns-clause-lawful : goal.returns-clause-lawful
returns-clause-lawful c = drawer_lawful

pub returns-clause-spelled : goal.returns-clause-spelled
returns-clause-spelled c = drawer_spelled

pub returns-clause-both : goal.returns-clause-both
returns-clause-both c = slave_law

pub returns-clause-gives : goal.returns-clause-gives
returns-clause-gives c = refl

pub returns-clause-comes : goal.returns-clause-comes
returns-clause-comes c = refl

pub returns-clause-counts : goal.returns-clause-counts
returns-clause-counts c = refl

pub returns-clause-executes : goal.returns-clause-executes
returns-clause-executes c = refl

pub returns-clause-replies : goal.returns-clause-replies
returns-clause-replies c = refl
