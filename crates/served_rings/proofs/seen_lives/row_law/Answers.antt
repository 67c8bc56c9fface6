use Rattle.std.proofs.Common.{refl}
use Rattle.run_work.proofs.of_life_counts.TaggedWhole.{seeing_lawful, seeing_stated}
use Rattle.run_work.specs.of_life_counts.Epochs.{between}
use Rattle.served_rings.proofs.SeenRows.{era_in}
use Rattle.served_rings.proofs.seen_lives.row_law.Goals as goal

pub returns : goal.returns
returns g c = λ w k seer table spot e opened end fs v r n is. era_in w.exchange w.calm w.fair w.states (seeing_lawful w k) (seeing_stated w k) seer table spot e opened end fs (between v) r n is refl
