use Rattle.slave_lives.proofs.Owned as Of
use Rattle.slave_lives.proofs.life_laws.own_law.Goals as goal

pub returns : goal.returns
returns c = λ lens station ds. Of.own_is lens station ds
