use Rattle.plan_ring.specs.of_life_runs.First.{lens_of, first_leads}
use Rattle.plan_ring.specs.Round.{ring_of}
use Rattle.plan_ring.proofs.of_frames_seen.Returned as Returned
use Rattle.life_counts.specs.of_segment_plan.Bound.{slowest}
use Rattle.run_work.proofs.Rounds.{frames_returned, toured_framed}
use Rattle.run_work.proofs.tallied_law.Goals as goal

pub returns : goal.returns
returns c = λ plan fs missed leads p cs is known run.
    let lens = lens_of plan.slaves in
    let framed = toured_framed lens plan.recover plan.retry (slowest plan.paces) (first_leads plan) plan.paces fs run.again missed leads p cs run.toured in
    let back = frames_returned (λ lens ring octets ds f e. Returned.ring_back lens ring octets ds f e) lens (ring_of plan) fs framed run.round in
    c.toured_law.ensures plan fs run.again missed leads p cs is run.toured back run.asks (c.answer_law.ensures plan fs run.again missed leads p cs is known run.toured run.round run.asks) run.waits
