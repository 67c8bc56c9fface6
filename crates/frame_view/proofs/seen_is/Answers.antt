use Rattle.frame_view.proofs.Octets
use Rattle.frame_view.proofs.seen_is.Goals as goal

pub returns : goal.returns
returns c = λ lens octets ds f. Octets.seen_is lens octets ds f
