-- The lemma on give-ups, at the types of the function.
use Rattle.segment_model.specs.Ends.{ends}
use Rattle.segment_model.proofs.GivenUps.{quiet_frames, ends_none}
use Rattle.segment_model.proofs.laws.give_up_law.Goals as goal

pub returns : goal.returns
returns g c = λ x law more task station frame front behind le none. quiet_frames (ends x.speech more task) (ends_none x law more task) station frame front behind le none
