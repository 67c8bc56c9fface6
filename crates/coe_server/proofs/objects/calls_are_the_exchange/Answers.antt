use Rattle.coe_server.proofs.Exchanged.{exchanged}
use Rattle.coe_server.proofs.objects.calls_are_the_exchange.Goals as goal

pub returns : goal.returns
returns g c = λ o areas v old new app counts body transfer back does. exchanged o areas v old new app counts body transfer back does
