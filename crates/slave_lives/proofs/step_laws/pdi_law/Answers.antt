use Rattle.slave_lives.proofs.Stepping
use Rattle.slave_lives.proofs.step_laws.pdi_law.Goals as goal

pub returns : goal.returns
returns g c = λ u boot r q k j s t up registers node. Stepping.steps_up u boot r q k j s t up registers node
