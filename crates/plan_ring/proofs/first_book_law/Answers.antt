use Rattle.plan_ring.proofs.KeptFirst as First
use Rattle.plan_ring.specs.Master.{owed}
use Rattle.plan_ring.proofs.first_book_law.Goals as goal

pub returns : goal.returns
returns c = λ lens ss more fs place m i led is open_. First.first_book m.services m.clearing m.plan m.spot (owed m i.whole led) led.forgets more m.first m.life fs m.node i.lived is open_
