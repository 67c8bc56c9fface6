use Rattle.slave_model.proofs.Forms.{lifted_never, gated_never, joined_never, family_never}
use Rattle.slave_model.proofs.States.{states_never}
use Rattle.slave_model.proofs.never_waits.forms_law.Goals as goal

pub returns-clause-lifted : goal.returns-clause-lifted
returns-clause-lifted g c = λ x read write spells never. lifted_never x read write spells never

pub returns-clause-refused : goal.returns-clause-refused
returns-clause-refused g c = λ x r is tells never served. gated_never x r is tells never served

pub returns-clause-joined : goal.returns-clause-joined
returns-clause-joined g c = λ s x seat side never. joined_never s x seat side never

pub returns-clause-family : goal.returns-clause-family
returns-clause-family g c = λ x one never. family_never x one never

pub returns-clause-states : goal.returns-clause-states
returns-clause-states g c = λ x s table never. states_never x s table never
