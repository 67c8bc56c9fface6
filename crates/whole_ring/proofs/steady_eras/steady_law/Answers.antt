use Rattle.whole_ring.proofs.Steadied.{era_steady}
use Rattle.whole_ring.proofs.steady_eras.steady_law.Goals as goal

pub returns : goal.returns
returns g c = λ x s processor table spot e opened end fs v r n is asks. era_steady x s processor table spot e opened end fs v r n is asks
