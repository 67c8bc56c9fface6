use Rattle.plan_ring.proofs.KeptFirst as First
use Rattle.plan_ring.proofs.book_lives.first_epoch_law.Goals as goal

pub returns : goal.returns
returns g k = λ w c p spot owes f more first l fs n i is open_. First.first_book w c p spot owes f more first l fs n i is open_
