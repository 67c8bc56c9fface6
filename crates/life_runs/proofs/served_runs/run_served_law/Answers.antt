use Rattle.life_runs.proofs.Quiet.{run_served}
use Rattle.life_runs.proofs.served_runs.run_served_law.Goals as goal

pub returns : goal.returns
returns c = λ lens recover retry paces first fs missed as' n l. run_served lens recover retry paces first n fs missed as' l
