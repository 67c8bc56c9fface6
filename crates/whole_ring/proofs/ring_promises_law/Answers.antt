use Rattle.slave_lives.proofs.EraEnds as Ends
use Rattle.whole_ring.proofs.Promised
use Rattle.whole_ring.proofs.Begins
use Rattle.whole_ring.specs.Members.{Passes}
use Rattle.whole_ring.proofs.ring_promises_law.Goals as goal

pub returns : goal.returns
returns g k = record {
  lives = λ lens step test fs ring before m behind r. Begins.member_at lens step (Passes test) fs 0 before m behind r.each;
  chain = λ lens step test fs place m i. Ends.eras m.services m.clearing.cleared m.spot fs i.lived.past;
  promises = λ lens step test fs place m i lawful stand. Promised.promised m.services m.clearing m.plan m.spot m.first m.life fs m.node (record { whole = i.whole; lawful = lawful }) i.lived stand;
}
