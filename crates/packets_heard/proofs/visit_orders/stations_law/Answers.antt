use Rattle.packets_heard.proofs.Whole.{visit_whole}
use Rattle.packets_heard.proofs.visit_orders.stations_law.Goals as goal

pub returns : goal.returns
returns c = λ lens ring members made octets as' us live size area t visit few long at a d p h w f o. visit_whole lens ring members made octets as' us live size area t visit few long at a d p h w f o
