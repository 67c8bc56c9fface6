use Rattle.std.proofs.Common.{subst, sym, ◌∙◌}
use Rattle.idle_slaves.proofs.Fits.{AllSeated}
use Rattle.idle_slaves.specs.of_life_runs.First.{first_leads, lens_of}
use Rattle.idle_slaves.specs.of_plan_ring.Round.{all_seen, ring_of}
use Rattle.idle_slaves.proofs.of_plan_ring.Known.{macs_in}
use Rattle.idle_slaves.proofs.of_plan_ring.Lives.{front_round, last_round}
use Rattle.seen_slaves.proofs.Rows.{serves_pass}
use Rattle.seen_slaves.proofs.Turns.{serves_told}
use Rattle.seen_slaves.specs.Eager.{leads_of}
use Rattle.seen_slaves.proofs.Meets.{served_met}
use Rattle.seen_slaves.proofs.Seats.{Laws, all_seated, nodes_are}
use Rattle.seen_slaves.proofs.Stations.{leads_new, waits_of}
use Rattle.seen_slaves.proofs.served_waits.served_waits_law.Goals as goal

pub returns : goal.returns
returns c = λ plan fs again missed ws p cs ls ns is known run went e.
    let lens = lens_of plan.slaves in
    let laws : Laws = record { speaks = c.any_law.ensures.speaks; runs = c.any_law.ensures.runs; never = c.parts_never.ensures } in
    let new = leads_new plan.services 0 plan.slaves is.laid.slaves in
    waits_of plan is c.seen_is.ensures
    (λ gs lost us led round. (let x = c.served_ring_law.ensures plan is known gs lost us led round in
    let passes = serves_pass lens plan.recover plan.retry plan.paces (first_leads plan) gs lost us new led in
    let told = serves_told c.seen_is.ensures lens plan.recover plan.retry plan.paces (first_leads plan) gs lost us new led (c.served_returned.ensures plan gs lost us led round) in
    subst (λ ks. AllSeated lens plan.slaves (leads_of us) ks) (sym (x.lives.nodes ∙ nodes_are plan 0 plan.slaves us x.nodes x.at))
    (all_seated laws plan (all_seen lens gs) 0 plan.slaves us x.nodes is.laid.slaves (macs_in plan.slaves known.macs) x.led x.lives.each x.at passes told)))
    (λ gs lost us f vs led frame round pass. served_met plan is known gs us f vs (c.served_ring_law.ensures plan is known gs lost us led (front_round (ring_of plan) gs f round)) frame (last_round (ring_of plan) gs f round) pass)
    fs again missed ws p cs ls ns run went e
