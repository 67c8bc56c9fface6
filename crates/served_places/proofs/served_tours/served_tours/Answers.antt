use Rattle.served_places.proofs.Toured.{led}
use Rattle.served_places.proofs.served_tours.served_tours.Goals as goal

pub returns : goal.returns
returns c = λ lens recover retry slowest first fs again missed ws p cs run. led lens recover retry slowest first fs again missed ws p cs run
