use Rattle.slave_model.proofs.HearsForms.{lifted_hears, gated_hears, joined_hears, family_hears}
use Rattle.slave_model.proofs.HearsStates.{states_hears}
use Rattle.slave_model.proofs.hears_first.forms_law.Goals as goal

pub returns-clause-lifted : goal.returns-clause-lifted
returns-clause-lifted g c = λ x read write spells hears. lifted_hears x read write spells hears

pub returns-clause-refused : goal.returns-clause-refused
returns-clause-refused g c = λ x r is hears served. gated_hears x r is hears served

pub returns-clause-joined : goal.returns-clause-joined
returns-clause-joined g c = λ s x seat side hears. joined_hears s x seat side hears

pub returns-clause-family : goal.returns-clause-family
returns-clause-family g c = λ x one hears. family_hears x one hears

pub returns-clause-states : goal.returns-clause-states
returns-clause-states g c = λ x s table hears. states_hears x s table hears
