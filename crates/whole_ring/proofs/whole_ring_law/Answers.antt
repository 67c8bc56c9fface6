use Rattle.whole_ring.proofs.Begins
use Rattle.whole_ring.proofs.Members as Members
use Rattle.whole_ring.specs.Members.{Passes}
use Rattle.whole_ring.proofs.whole_ring_law.Goals as goal

pub returns : goal.returns
returns g k = record {
  begins = λ lens step test lose ms few distinct new. Begins.ring_begins lens step (Passes test) lose ms few distinct new;
  turns = λ lens step test more passed fs ring octets ds ms turns is r asks. Members.ring_on lens step (Passes test) more passed fs ring octets ds is ms turns r asks;
  gives = λ lens step test fs ring recover frame ms carried r. Begins.ring_given lens step (Passes test) fs recover frame ring ms carried r;
}
