use Rattle.slave_lives.proofs.Opens
use Rattle.slave_lives.proofs.step_laws.open_step.Goals as goal

pub returns : goal.returns
returns g c = λ lens u boot r q k j s t open_ stands keeps steps up status code. Opens.open_step lens u boot r q k j s t open_ stands keeps steps up status code
