-- The lemmas on the replay, at the types of the function.
use Rattle.std.proofs.Common.{ap, ◌∙◌, ◌++◌}
use Rattle.segment_model.specs.Slaves.{replayed}
use Rattle.segment_model.specs.Record.{recorded}
use Rattle.segment_model.specs.Seats.{new_session, ring_of}
use Rattle.segment_model.proofs.Replays.{run_ring, run_frames}
use Rattle.segment_model.proofs.laws.replay_law.Goals as goal

pub returns-clause-ring : goal.returns-clause-ring
returns-clause-ring g c = λ x processor ps opening ts. run_ring x processor (new_session opening ps) ts

pub returns-clause-frames : goal.returns-clause-frames
returns-clause-frames g c = λ x processor ps opening ts. run_frames x processor (new_session opening ps) ts

pub returns-clause-paced : goal.returns-clause-paced
returns-clause-paced g c = λ x processor ps opening ts paces e.
    let new = new_session opening ps in
    (run_ring x processor new ts ∙ ap (replayed x processor (ring_of new.seats)) e, run_frames x processor new ts ∙ ap (λ ms. opening ++ recorded x processor (ring_of new.seats) ms) e)
