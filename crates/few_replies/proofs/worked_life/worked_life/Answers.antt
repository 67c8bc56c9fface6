-- Each is computed.
use Rattle.std.proofs.Common.{refl}
use Rattle.few_replies.proofs.worked_life.worked_life.Goals as goal

pub returns-clause-opened : goal.returns-clause-opened
returns-clause-opened c = refl

pub returns-clause-given_up : goal.returns-clause-given_up
returns-clause-given_up c = (refl, refl)

pub returns-clause-past : goal.returns-clause-past
returns-clause-past c = (refl, refl)

pub returns-clause-anew : goal.returns-clause-anew
returns-clause-anew c = (refl, refl, refl, refl)

pub returns-clause-passed : goal.returns-clause-passed
returns-clause-passed c = (refl, refl)

pub returns-clause-answered : goal.returns-clause-answered
returns-clause-answered c = refl

pub returns-clause-joined : goal.returns-clause-joined
returns-clause-joined c = refl
