use Rattle.served_places.proofs.Waits.{wait_few}
use Rattle.served_places.proofs.waiting_law.Goals as goal

pub returns : goal.returns
returns c = λ lens recover retry paces first fs missed ws led. wait_few lens recover retry paces first fs missed ws led
