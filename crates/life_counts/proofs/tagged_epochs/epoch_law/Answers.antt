use Rattle.life_counts.proofs.TaggedWhole.{epoch_seen}
use Rattle.life_counts.proofs.tagged_epochs.epoch_law.Goals as goal

pub returns : goal.returns
returns g c = λ w k u processor seer table spot run opened v r plan answers fs counts e n led fair. epoch_seen w k u processor seer table spot run opened v r plan answers fs counts e n led fair
