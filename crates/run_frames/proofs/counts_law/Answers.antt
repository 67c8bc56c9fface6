use Rattle.run_frames.proofs.Returning.{known, gains_lost}
use Rattle.run_frames.proofs.Running.{holds}
use Rattle.run_frames.proofs.Within.{run_within}
use Rattle.run_frames.proofs.counts_law.Goals as goal

pub returns-clause-counted : goal.returns-clause-counted
returns-clause-counted g c = λ x acknowledged more passed recover slowest first cs p r.
    (holds (known _ _ _)
    (gains_lost _ _ _) x acknowledged more passed recover slowest first p cs r).counted

pub returns-clause-within : goal.returns-clause-within
returns-clause-within g c = λ x acknowledged more passed recover slowest work lost first cs p r some pace enough few. run_within x acknowledged more passed recover slowest work lost first cs p r some pace enough few
