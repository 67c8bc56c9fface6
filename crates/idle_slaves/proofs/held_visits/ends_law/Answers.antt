use Rattle.idle_slaves.proofs.Ends.{ends}
use Rattle.idle_slaves.proofs.held_visits.ends_law.Goals as goal

pub returns : goal.returns
returns g c = λ x s processor table spot e opened last fs v r slave law stated lived is y same row said more passed frame pick station back rule took.
    ends x s processor table spot e opened last fs v r slave law stated lived is y same row said more passed frame pick station back _ rule took
