use Rattle.packets_heard.proofs.Toured.{toured_led, visit_by_stations}
use Rattle.packets_heard.proofs.visit_orders.toured_law.Goals as goal

pub returns : goal.returns
returns c = record {
  led = λ lens recover retry first fs t as' r. toured_led lens recover retry first fs t as' r;
  stations = λ ring members live again opened last a d p h. visit_by_stations ring members live again opened last a d p h;
}
