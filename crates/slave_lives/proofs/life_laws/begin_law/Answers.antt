use Rattle.slave_lives.proofs.EraBegins
use Rattle.slave_lives.proofs.life_laws.begin_law.Goals as goal

pub returns : goal.returns
returns g c = λ w is stated tells p spot al cleared opened fs n frames start o. EraBegins.begun w is stated tells p spot al cleared opened fs n frames start o
