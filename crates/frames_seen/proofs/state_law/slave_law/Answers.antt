-- The lemmas on the slave's AL state machine, at the types of the function.
use Rattle.frames_seen.proofs.Tables.{is_table}
use Rattle.frames_seen.proofs.Carries.{carries}
use Rattle.frames_seen.proofs.state_law.slave_law.Goals as goal

pub returns-clause-table : goal.returns-clause-table
returns-clause-table c = λ boot areas start e. is_table boot areas start e

pub returns-clause-carries : goal.returns-clause-carries
returns-clause-carries c = λ boot areas al r control shows e. carries boot areas al r control shows e
