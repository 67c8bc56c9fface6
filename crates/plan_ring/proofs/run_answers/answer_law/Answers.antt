use Rattle.std.proofs.Common.{[]}
use Rattle.run_frames.specs.of_life_runs.First.{first_leads}
use Rattle.run_frames.specs.of_life_runs.Led.{IsLed}
use Rattle.run_frames.proofs.Tallying.{first_of_plan}
use Rattle.slave_server.specs.of_segment_plan.Bound.{slowest}
use Rattle.plan_ring.proofs.Runs.{answered}
use Rattle.plan_ring.proofs.run_answers.answer_law.Goals as goal

pub returns : goal.returns
returns c = λ plan fs again missed leads p cs is known run round asks.
    let first = first_of_plan plan.services plan.slaves plan.paces is.laid.paces is.laid.pace in
    answered c.seen_is.ensures plan is known (slowest plan.paces) (c.run_lives_law.ensures plan is known [] 0 (first_leads plan) IsLed.start tt) first.2 fs again missed leads p cs run round asks
