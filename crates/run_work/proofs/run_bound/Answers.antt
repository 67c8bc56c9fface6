use Rattle.std.proofs.Common.{◌≡◌, ◌+◌, ◌-◌, ◌*◌, ◌<◌, length, subst, arith}
use Rattle.life_counts.specs.Split.{own_work}
use Rattle.plan_ring.specs.of_run_frames.Begun.{work_in}
use Rattle.life_counts.specs.of_segment_plan.Bound.{services_work, host_work, slowest}
use Rattle.run_work.specs.Switched.{cuts_begun}
use Rattle.run_work.specs.Together.{packets_begun}
use Rattle.run_work.proofs.run_bound.Goals as goal

pub returns-clause-within : goal.returns-clause-within
returns-clause-within c = λ plan fs missed leads p cs is known run.
    let tallied = c.tallied_law.ensures plan fs missed leads p cs is known run in
    let led = (c.led_counts.ensures.led plan fs missed leads p cs is tallied).0 in
    let gained = c.run_work.ensures plan is known fs missed leads led run.round in
    let packets = cuts_begun plan.slaves leads + packets_begun plan.slaves leads in
    let own = work_in own_work plan.slaves plan.services in
    let all = c.led_counts.ensures.within plan fs missed (own + packets) (length plan.host) leads p cs is tallied (c.fates_law.ensures.fated plan fs run.round) (omega (arith, gained)) run.enters in
    let sum : own + packets + length plan.host + length plan.lose + 2 * length plan.slaves ≡ own + (packets + length plan.host) + length plan.lose + 2 * length plan.slaves = omega arith in
    subst (λ z. length fs < 16 * slowest plan.paces * (length plan.slaves + 1) * z) sum all

pub returns-clause-switched : goal.returns-clause-switched
returns-clause-switched c = λ plan fs missed leads p cs is known run packets.
    let tallied = c.tallied_law.ensures plan fs missed leads p cs is known run in
    let led = (c.led_counts.ensures.led plan fs missed leads p cs is tallied).0 in
    let gained = c.run_work.ensures plan is known fs missed leads led run.round in
    let few = c.switched_law.ensures plan is fs missed leads led packets in
    let whole = services_work plan.slaves plan.services + host_work (length plan.slaves) plan.host + 128 * 0 in
    let all = c.led_counts.ensures.within plan fs missed (whole - length plan.host) (length plan.host) leads p cs is tallied (c.fates_law.ensures.fated plan fs run.round) (omega (arith, gained, few)) run.enters in
    let sum : whole - length plan.host + length plan.host + length plan.lose + 2 * length plan.slaves ≡ whole + length plan.lose + 2 * length plan.slaves = omega (arith, few) in
    subst (λ z. length fs < 16 * slowest plan.paces * (length plan.slaves + 1) * z) sum all

pub returns-clause-uncut : goal.returns-clause-uncut
returns-clause-uncut c = λ plan fs missed leads p cs budget is known run packets enough same.
    let tallied = c.tallied_law.ensures plan fs missed leads p cs is known run in
    let led = (c.led_counts.ensures.led plan fs missed leads p cs is tallied).0 in
    let gained = c.run_work.ensures plan is known fs missed leads led run.round in
    let few = c.switched_law.ensures plan is fs missed leads led packets in
    let whole = services_work plan.slaves plan.services + host_work (length plan.slaves) plan.host + 128 * 0 in
    let all = c.led_counts.ensures.within plan fs missed (whole - length plan.host) (length plan.host) leads p cs is tallied (c.fates_law.ensures.fated plan fs run.round) (omega (arith, gained, few)) run.enters in
    let sum : whole - length plan.host + length plan.host + length plan.lose + 2 * length plan.slaves ≡ whole + length plan.lose + 2 * length plan.slaves = omega (arith, few) in
    let within = subst (λ z. length fs < 16 * slowest plan.paces * (length plan.slaves + 1) * z) sum all in
    omega (arith, within, enough, same)
