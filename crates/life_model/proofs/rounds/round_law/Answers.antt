use Rattle.life_model.proofs.Turns.{ahead_less}
use Rattle.life_model.proofs.Around.{comes_nearer, goes_on, round_comes}
use Rattle.life_model.proofs.rounds.round_law.Goals as goal

pub returns-clause-kept : goal.returns-clause-kept
returns-clause-kept g c = λ size retry ring t f cs a r v. goes_on size retry ring t f cs a r v

pub returns-clause-nearer : goal.returns-clause-nearer
returns-clause-nearer g c = λ size ring t cs station a r e l v. comes_nearer size ring t cs station a r e l v

pub returns-clause-less : goal.returns-clause-less
returns-clause-less g c = λ ring t station a r e. ahead_less ring t.last station a r.last e

pub returns-clause-round : goal.returns-clause-round
returns-clause-round g c = λ size retry ring station t fs a r e l b v long. round_comes size retry ring station t fs a r e l b v long
