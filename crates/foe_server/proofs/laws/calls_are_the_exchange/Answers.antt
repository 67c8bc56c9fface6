use Rattle.foe_server.proofs.Exchanged.{exchanged}
use Rattle.foe_server.proofs.laws.calls_are_the_exchange.Goals as goal

pub returns : goal.returns
returns c = λ o areas v old new before behind counts body app transfer out back does. exchanged o areas v old new before behind counts body app transfer out back does
