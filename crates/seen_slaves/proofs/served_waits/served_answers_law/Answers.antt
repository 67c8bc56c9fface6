use Rattle.idle_slaves.specs.of_life_runs.First.{lens_of}
use Rattle.idle_slaves.specs.of_segment_plan.Bound.{slowest}
use Rattle.served_rings.proofs.of_served_places.Slaves.{begins_so}
use Rattle.seen_slaves.proofs.Answered.{answered}
use Rattle.seen_slaves.proofs.Clocks.{first_stand}
use Rattle.seen_slaves.proofs.Walk.{first_clocks, first_of}
use Rattle.seen_slaves.proofs.served_waits.served_answers_law.Goals as goal

pub returns : goal.returns
returns c = λ plan fs again missed ws p cs is known run went asks.
    answered c.seen_is.ensures plan is known (slowest plan.paces) (λ gs lost us led round. c.served_ring_law.ensures plan is known gs lost us led round)
    (begins_so plan is).2 (first_stand (lens_of plan.slaves) plan.services 0 0 plan.slaves plan.paces) (first_clocks (first_of plan)) fs again missed ws p cs run went asks
