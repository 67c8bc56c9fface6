-- The lemmas on a session, at the types of the function.
use Rattle.std.proofs.Common.{false}
use Rattle.segment_model.proofs.Bounds.{bound_promised, bound_handed, bound_ended, bound_counted, bound_rests, bound_done}
use Rattle.segment_model.proofs.laws.session_law.Goals as goal

pub returns-clause-promised : goal.returns-clause-promised
returns-clause-promised g c = λ x law more processor still ps p ds ns fs b. bound_promised x law more processor still ps p ds ns fs b

pub returns-clause-rests : goal.returns-clause-rests
returns-clause-rests g c = λ x law processor still ps p ds ns fs b. bound_rests x law (λ m. false) processor still ps p ds ns fs b

pub returns-clause-handed : goal.returns-clause-handed
returns-clause-handed g c = λ x law more processor still ps p ds ns fs b. bound_handed x law more processor still ps p ds ns fs b

pub returns-clause-in_doubt : goal.returns-clause-in_doubt
returns-clause-in_doubt g c = λ x law more processor still ps p ds ns fs b. bound_ended x law more processor still ps p ds ns fs b

pub returns-clause-counters : goal.returns-clause-counters
returns-clause-counters g c = λ x law processor ps p ds ns fs b. bound_counted x law processor ps p ds ns fs b

pub returns-clause-done : goal.returns-clause-done
returns-clause-done g c = λ x law more scripted processor still ps p ds ns fs b. bound_done x law more processor still ps p ds ns fs b scripted
