use Rattle.std.proofs.Common.{[], refl}
use Rattle.whole_ring.specs.Members.{Passes}
use Rattle.plan_ring.proofs.Each.{each_stand, each_answers, meets}
use Rattle.plan_ring.proofs.ring_clocks.ring_clocks_law.Goals as goal

pub returns : goal.returns
returns g c = record {
  turns = λ lens step test more passed fs ring octets ds ms turns clocks frame r asks stand. each_stand lens step (Passes test) more passed fs ring octets ds frame ms r (meets lens step (Passes test) more passed fs ring octets ds frame ms turns r asks) [] ms turns clocks refl r.each asks stand;
  answers = λ lens step test more passed fs ring octets ds ms turns clocks frame r asks stand pass q. each_answers lens step (Passes test) more passed fs ring octets ds frame ms r (meets lens step (Passes test) more passed fs ring octets ds frame ms turns r asks) pass [] ms turns clocks refl r.each asks stand q;
}
