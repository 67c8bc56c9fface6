use Rattle.life_runs.specs.First.{lens_of, first_leads}
use Rattle.life_runs.specs.of_segment_plan.Bound.{slowest}
use Rattle.run_frames.proofs.Tallying.{first_of_plan}
use Rattle.run_frames.proofs.Toured.{toured}
use Rattle.run_frames.proofs.toured_law.Goals as goal

pub returns : goal.returns
returns c = λ plan fs again missed as' p cs is t back asks answers waits.
    let b = first_of_plan plan.services plan.slaves plan.paces is.laid.paces is.laid.pace in
    (toured c.seen_is.ensures (lens_of plan.slaves) plan.recover plan.retry (slowest plan.paces) (first_leads plan) plan.paces (b.0, b.1, b.2) fs again missed as' p cs t back asks answers waits).tallied
