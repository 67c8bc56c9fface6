use Rattle.life_runs.proofs.ServedOpened.{open_theirs}
use Rattle.life_runs.proofs.served_runs.opened_law.Goals as goal

pub returns : goal.returns
returns c = λ plan fs missed ws led. open_theirs plan fs missed ws led
