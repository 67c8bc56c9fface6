use Rattle.run_frames.proofs.Counting.{lost_counts, lost_clocked_all}
use Rattle.run_frames.proofs.Returning.{known, gains_lost}
use Rattle.run_frames.proofs.Same.{as_many_lost}
use Rattle.run_frames.proofs.lost_law.Goals as goal

pub returns-clause-counts : goal.returns-clause-counts
returns-clause-counts g c = λ x acknowledged more passed gives recover slowest opened later number lost still last next sent as' us k t l one.
    lost_counts (known _ _ _).before (gains_lost _ _ _) x acknowledged more passed gives recover slowest opened later number lost still last next sent as' us k t l one

pub returns-clause-clocked : goal.returns-clause-clocked
returns-clause-clocked g c = λ x acknowledged more passed gives recover slowest number sent as' us k t.
    (lost_clocked_all (known _ _ _).before (gains_lost _ _ _) x acknowledged more passed gives recover number sent slowest as' us k t, as_many_lost (known _ _ _).before (gains_lost _ _ _) x acknowledged more passed gives recover number sent as' us t)
