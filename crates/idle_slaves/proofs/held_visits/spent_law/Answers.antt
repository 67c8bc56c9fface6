use Rattle.idle_slaves.proofs.Spent.{spent_free}
use Rattle.idle_slaves.proofs.held_visits.spent_law.Goals as goal

pub returns : goal.returns
returns g c = λ x s processor table spot l opened last fs v r slave law stated never lived spent is y same row said none.
    spent_free x s processor table spot l opened last fs v r slave law stated never lived spent is y same row said none
