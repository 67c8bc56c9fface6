use Rattle.slave_lives.proofs.Stepping
use Rattle.slave_lives.proofs.step_laws.step_view.Goals as goal

pub returns : goal.returns
returns g c = λ x processor u f boot r q k j s t served carries steps up. Stepping.step_view x processor u f boot r q k j s t served carries steps up
