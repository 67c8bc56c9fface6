use Rattle.run_frames.proofs.Deciding.{round_counts, opening_counts}
use Rattle.run_frames.proofs.Returning.{known, back_clocked_all, as_many}
use Rattle.run_frames.proofs.returned_law.Goals as goal

pub returns-clause-opening : goal.returns-clause-opening
returns-clause-opening g c = λ x acknowledged more passed slowest opened later number lost still last next sent back as' us k t b under one over few.
    opening_counts (known _ _ _)
    x acknowledged more passed slowest opened later number lost still last sent back as' us next k t b under one over few

pub returns-clause-round : goal.returns-clause-round
returns-clause-round g c = λ x acknowledged more passed slowest opened later number lost still last sent back as' us ps k t b over more' r few.
    round_counts (known _ _ _)
    x acknowledged more passed slowest opened later number lost still last sent back as' us ps k t b over more' r few

pub returns-clause-clocked : goal.returns-clause-clocked
returns-clause-clocked g c = λ x acknowledged more passed slowest number sent back as' us k t b.
    let facts = known _ _ _ in
    (back_clocked_all facts x acknowledged more passed number sent back slowest as' us k t b, as_many facts x acknowledged more passed number sent back as' us t)
