-- The lemmas on master and ring apart, at the types of the function.
use Rattle.state_model.proofs.Splits.{new_tasked, tasked_step, run_tasked}
use Rattle.state_model.proofs.task_model.tasks_split_law.Goals as goal

pub returns-clause-begins : goal.returns-clause-begins
returns-clause-begins g c = λ x acknowledged processor ps opening quiet. new_tasked x acknowledged processor ps opening quiet

pub returns-clause-steps : goal.returns-clause-steps
returns-clause-steps g c = λ x acknowledged processor ps ds accounts ns fs b picks m f s. tasked_step x acknowledged processor ps ds accounts ns fs b picks m f s

pub returns-clause-runs : goal.returns-clause-runs
returns-clause-runs g c = λ x acknowledged processor ps opening quiet ts may. run_tasked x acknowledged processor ps opening quiet ts may
