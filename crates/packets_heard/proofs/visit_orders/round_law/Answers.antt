use Rattle.packets_heard.proofs.Orders.{round_is_visit, first_is_visit}
use Rattle.packets_heard.proofs.visit_orders.round_law.Goals as goal

pub returns : goal.returns
returns c = record {
  round = λ size opened ring members last visit places a d l o n g. round_is_visit size opened ring members last visit places a d l o n g;
  first = λ size opened ring members last visit places others rest o n g. first_is_visit size opened ring members last visit places others rest o n g;
}
