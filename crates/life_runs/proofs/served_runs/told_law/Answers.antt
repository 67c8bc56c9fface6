use Rattle.life_runs.proofs.Telling.{serves_tell}
use Rattle.life_runs.proofs.served_runs.told_law.Goals as goal

pub returns : goal.returns
returns c = λ lens recover retry paces first fs missed ws led. serves_tell lens recover retry paces first fs missed ws led
