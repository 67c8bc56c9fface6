-- The lemmas on master and ring apart, at the types of the function.
use Rattle.std.proofs.Common.{refl}
use Rattle.segment_model.proofs.Replays.{new_bound, bound_step}
use Rattle.segment_model.proofs.laws.split_law.Goals as goal

pub returns-clause-begins : goal.returns-clause-begins
returns-clause-begins g c = λ x processor ps opening quiet. new_bound x processor ps opening quiet

pub returns-clause-steps : goal.returns-clause-steps
returns-clause-steps g c = λ x processor ps ds ns fs b cs m f. bound_step x processor ps ds ns fs b cs m f

pub returns-clause-runs : goal.returns-clause-runs
returns-clause-runs g c = λ x processor ps opening quiet ts may. record { opening = opening; quiet = quiet; turns = ts; may = may; sides = refl; ring = refl; frames = refl }
