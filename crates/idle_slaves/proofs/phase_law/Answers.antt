use Rattle.idle_slaves.proofs.Phases.{behind_step, takes_on}
use Rattle.idle_slaves.proofs.phase_law.Goals as goal

pub returns-clause-stands : goal.returns-clause-stands
returns-clause-stands g c = λ table start is r rests es. behind_step _ _ table start is r rests es

pub returns-clause-gains : goal.returns-clause-gains
returns-clause-gains g c = λ target phase r seen. takes_on _ target phase r seen
