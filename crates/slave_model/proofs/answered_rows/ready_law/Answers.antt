use Rattle.slave_model.proofs.Laws.{before, begun, state}
use Rattle.slave_model.proofs.answered_rows.ready_law.Goals as goal

pub returns-clause-before : goal.returns-clause-before
returns-clause-before g c = λ x s processor table spot e opened last fs v r slave law stated is. before x s processor table spot e opened last fs v r slave law stated is

pub returns-clause-begun : goal.returns-clause-begun
returns-clause-begun g c = λ x acknowledged more passed e frame pick q station back silent unpassed wish. begun x acknowledged more passed e frame pick q station back silent unpassed wish

pub returns-clause-state : goal.returns-clause-state
returns-clause-state g c = λ x acknowledged more passed e frame pick target unpassed wish took. state x acknowledged more passed e frame pick target unpassed wish took
