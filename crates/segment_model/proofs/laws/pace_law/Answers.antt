-- The lemma on pace 1, at the types of the function.
use Rattle.segment_model.specs.Record.{nothing_kept}
use Rattle.segment_model.proofs.Paces.{counted_one}
use Rattle.segment_model.proofs.laws.pace_law.Goals as goal

pub returns : goal.returns
returns g c = λ station fs. counted_one station 0 nothing_kept fs
