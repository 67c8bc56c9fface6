use Rattle.slave_lives.proofs.Meeting.{requests, reads, bits_stay}
use Rattle.slave_lives.proofs.steps_shown.asked_law.Goals as goal

pub returns : goal.returns
returns g c = record {
  requests = λ lens before r behind k v sent x bit ring own ask. requests lens before r behind k v sent ring x own bit ask;
  reads = λ lens before r behind k v sent x bit ring own ask. reads lens before r behind k v sent ring x own bit ask;
  stays = λ lens before r behind k v sent ring none. bits_stay lens before r behind k v sent ring none;
}
