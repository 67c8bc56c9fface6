use Rattle.soe_server.proofs.Exchanged.{exchanged}
use Rattle.soe_server.proofs.law.calls_are_the_exchange.Goals as goal

pub returns : goal.returns
returns g c = λ o areas v old new app counts body join back does. exchanged o areas v old new app counts body join back does
