use Rattle.std.proofs.lemmas.Bool.{le-leb}
use Rattle.life_runs.proofs.Lives.{next_life, back_life, lost_life, given_life, stands_kept}
use Rattle.master_tour.proofs.Backs.{seen_aims}
use Rattle.master_tour.proofs.of_master_side.Kepts.{new_kept}
use Rattle.life_runs.proofs.counters_kept.counters_law.Goals as goal

pub returns-clause-begins : goal.returns-clause-begins
returns-clause-begins g c = λ state e. new_kept

pub returns-clause-next : goal.returns-clause-next
returns-clause-next g c = λ x acknowledged more passed made kept l pick k. next_life x acknowledged more passed made kept l pick k

pub returns-clause-back : goal.returns-clause-back
returns-clause-back g c = λ x acknowledged more passed frame at under carried spot ns lens octets came kept l some u k.
    back_life x acknowledged more passed frame at under carried spot ns _ came kept l (seen_aims lens octets spot.station (le-leb 1 spot.station some)) u k

pub returns-clause-lost : goal.returns-clause-lost
returns-clause-lost g c = λ x acknowledged more passed at under carried spot ns lens octets kept l some u k.
    lost_life x acknowledged more passed at under carried spot ns _ kept l (seen_aims lens octets spot.station (le-leb 1 spot.station some)) u k

pub returns-clause-given : goal.returns-clause-given
returns-clause-given g c = λ recover frame spot kept l. given_life recover frame spot kept l

pub returns-clause-stands : goal.returns-clause-stands
returns-clause-stands g c = λ stand kept l o k. stands_kept stand kept l o k
