use Rattle.life_runs.proofs.Came.{serves_come}
use Rattle.life_runs.proofs.served_runs.asked_law.Goals as goal

pub returns : goal.returns
returns c = λ lens recover retry paces first fs missed ws fresh led. serves_come lens recover retry paces first fresh fs missed ws led
