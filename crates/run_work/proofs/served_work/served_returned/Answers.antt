use Rattle.plan_ring.specs.of_life_runs.First.{lens_of, first_leads}
use Rattle.plan_ring.specs.Round.{ring_of}
use Rattle.plan_ring.proofs.of_frames_seen.Returned as Returned
use Rattle.plan_ring.specs.of_life_runs.Served.{all_serve}
use Rattle.run_work.proofs.Rounds.{frames_returned, served_framed}
use Rattle.run_work.proofs.served_work.served_returned.Goals as goal

pub returns : goal.returns
returns c = λ plan fs missed ws led round.
    let lens = lens_of plan.slaves in
    let framed = served_framed lens plan.recover plan.retry (all_serve plan.paces (first_leads plan)) fs missed ws led in
    frames_returned (λ lens ring octets ds f e. Returned.ring_back lens ring octets ds f e) lens (ring_of plan) fs framed round
