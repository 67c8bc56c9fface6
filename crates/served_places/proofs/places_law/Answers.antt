use Rattle.served_places.proofs.Places.{stay}
use Rattle.served_places.proofs.places_law.Goals as goal

pub returns : goal.returns
returns c = λ lens recover retry first fs missed ws led. stay lens recover retry first fs missed ws led
