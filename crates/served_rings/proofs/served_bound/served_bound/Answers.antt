use Rattle.std.proofs.Common.{◌+◌, ◌*◌, ◌<◌, length, subst, arith}
use Rattle.served_places.specs.of_life_runs.First.{lens_of, first_leads}
use Rattle.run_work.specs.of_life_counts.Split.{own_work}
use Rattle.served_places.specs.of_run_frames.Fates.{gained_in, lost_of}
use Rattle.run_work.specs.ServedGained.{asked_in, leads_of, served_in}
use Rattle.run_work.specs.Switched.{cuts_begun}
use Rattle.run_work.specs.Together.{packets_begun}
use Rattle.served_places.specs.of_run_frames.Begun.{work_in}
use Rattle.run_work.specs.of_segment_plan.Bound.{services_work, host_work, slowest}
use Rattle.served_rings.proofs.Within.{less_gained, sums}
use Rattle.served_rings.proofs.served_bound.served_bound.Goals as goal
use Rattle.served_places.specs.of_life_runs.Served.{all_serve}

pub returns-clause-within : goal.returns-clause-within
returns-clause-within c = λ plan fs missed ws p cs count is known run fair packets few.
    let n = length plan.slaves in
    let led = (c.served_tours.ensures (lens_of plan.slaves) plan.recover plan.retry (slowest plan.paces) (all_serve plan.paces (first_leads plan)) fs run.again missed ws p cs run.toured).0 in
    let lives = c.served_lives_law.ensures plan is known fs missed ws led run.round fair in
    let gained = c.served_law.ensures plan is known.macs fs missed ws led lives in
    let own = work_in own_work plan.slaves plan.services + (cuts_begun plan.slaves (leads_of ws) + packets_begun plan.slaves (leads_of ws)) in
    let switched = c.served_switched.ensures plan is fs missed ws led packets in
    let s = sums n (services_work plan.slaves plan.services + host_work n plan.host) own (length plan.host) (length plan.lose) count (asked_in ws) (gained_in (leads_of ws)) (served_in ws) p.lost (lost_of fs)
    (less_gained ws) (omega (arith, gained)) switched run.enters (c.fates_law.ensures.few plan fs run.round) few in
    subst (λ z. length fs < 16 * slowest plan.paces * (n + 1) * z) s.whole
    (c.served_frames.ensures.within plan fs run.again missed s.work s.most ws p cs is run.toured (c.served_returned.ensures plan fs missed ws led run.round) run.asks run.answers run.waits s.enough s.few)

pub returns-clause-uncut : goal.returns-clause-uncut
returns-clause-uncut c = λ plan fs missed ws p cs count budget is known run fair packets few enough same.
    let within = returns-clause-within c plan fs missed ws p cs count is known run fair packets few in
    omega (arith, within, enough, same)
