use Rattle.seen_slaves.proofs.Spent.{none_awaited}
use Rattle.seen_slaves.proofs.spent_rows.spent_rows.Goals as goal

pub returns : goal.returns
returns g c = λ x s processor table spot e opened last fs v r slave more passed law stated never is nothing passes lasts tells answered.
    none_awaited x s processor table spot e opened last fs v r slave more passed law stated never is nothing passes lasts tells answered
