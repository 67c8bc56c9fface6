use Rattle.idle_slaves.proofs.Slaves.{open_stands}
use Rattle.idle_slaves.proofs.eager_slaves.eager_law.Goals as goal

pub returns : goal.returns
returns g c = λ ex processor table x acknowledged more passed number sent back a u s s' m n begun next next' t f e stands k.
    let both = open_stands ex processor table x acknowledged more passed number sent back a u t s s' f m n next begun e.wish e.eager e.remembers next' e.gets e.script e.link e.answered e.states e.ends e.frees e.settles stands k in
    record { stands = both.0; waits = both.1 }
