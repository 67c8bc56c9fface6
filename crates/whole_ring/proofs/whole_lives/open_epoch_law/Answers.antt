use Rattle.slave_lives.proofs.EraEnds as Ends
use Rattle.whole_ring.proofs.Promised
use Rattle.whole_ring.proofs.whole_lives.open_epoch_law.Goals as goal

pub returns : goal.returns
returns g k = record {
  chain = λ w c p spot first l fs n i. Ends.eras w c.cleared spot fs i.past;
  promises = λ w c p spot first l fs n owes i stand. Promised.promised w c p spot first l fs n owes i stand;
}
