-- The lemmas on what a slave gives, at the types of the function.
use Rattle.served_rings.proofs.Slaves
use Rattle.served_rings.proofs.last_told.last_told.Goals as goal

pub returns : goal.returns
returns g c = λ o p law is. Slaves.slave_tells o law p is
