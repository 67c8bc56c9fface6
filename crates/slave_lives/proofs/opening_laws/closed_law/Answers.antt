use Rattle.slave_lives.proofs.Closed
use Rattle.slave_lives.proofs.opening_laws.closed_law.Goals as goal

pub returns : goal.returns
returns c = λ station p n r ds zero_ own called one. Closed.closed_apart station p n r ds zero_ own called one
