use Rattle.std.proofs.Common.{◌<◌, ◌+◌, ◌*◌, length, subst}
use Rattle.run_frames.specs.of_life_runs.First.{lens_of, first_leads}
use Rattle.run_frames.specs.of_segment_plan.Bound.{slowest}
use Rattle.run_frames.specs.of_life_runs.Served.{all_serve}
use Rattle.served_places.specs.Toured.{first_served}
use Rattle.run_frames.proofs.Within.{plan_within}
use Rattle.served_places.proofs.Runs.{counts}
use Rattle.served_places.proofs.Slaves.{begins_so, leads_in}
use Rattle.served_places.proofs.served_tours.served_frames.Goals as goal

pub returns-clause-run : goal.returns-clause-run
returns-clause-run c = λ plan fs again missed ws p cs is t back asks answers waits.
    let b = begins_so plan is in
    (counts c.seen_is.ensures (lens_of plan.slaves) plan.recover plan.retry (slowest plan.paces) (all_serve plan.paces (first_leads plan)) (b.0, b.1, b.2) fs again missed ws p cs t back asks answers waits).run

pub returns-clause-within : goal.returns-clause-within
returns-clause-within c = λ plan fs again missed work lost ws p cs is t back asks answers waits enough few.
    let b = begins_so plan is in
    let k = counts c.seen_is.ensures (lens_of plan.slaves) plan.recover plan.retry (slowest plan.paces) (all_serve plan.paces (first_leads plan)) (b.0, b.1, b.2) fs again missed ws p cs t back asks answers waits in
    subst (λ n. n < 16 * slowest plan.paces * (length plan.slaves + 1) * (work + lost + 2 * length plan.slaves)) k.frames
    (plan_within plan is (first_served (all_serve plan.paces (first_leads plan))) cs p k.run b.3 (leads_in ws) k.slaves work lost enough few)
