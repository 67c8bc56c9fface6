use Rattle.std.proofs.Common.{[], sym, ◌∙◌, subst}
use Rattle.served_places.proofs.of_life_runs.First.{apart_from, have_lens}
use Rattle.served_places.specs.of_life_runs.First.{first_leads, lens_of}
use Rattle.run_work.specs.of_plan_ring.Round.{ring_after, ring_of}
use Rattle.run_work.proofs.Placed.{all_fresh}
use Rattle.served_rings.specs.Rings.{AllServedAt, nodes_behind}
use Rattle.served_rings.proofs.RestAll.{all_done}
use Rattle.served_rings.proofs.ServedAll.{nodes_of}
use Rattle.served_rings.proofs.served_rests.served_rests_law.Goals as goal

pub returns : goal.returns
returns c = λ plan is known fs missed ws l round.
    let lens = lens_of plan.slaves in
    let x = c.served_ring_law.ensures plan is known fs missed ws l round in
    let nodes = x.lives.nodes ∙ nodes_of plan lens 0 plan.slaves ws x.nodes x.at in
    all_done plan (nodes_behind plan fs) 0 plan.slaves ws (ring_after (ring_of plan) fs).nodes (have_lens plan.slaves (apart_from [] 0 plan.slaves is.stations)) (c.served_replies_law.ensures plan is known fs missed ws l round)
    (subst (AllServedAt plan 0 plan.slaves ws) (sym nodes) x.at)
    (c.asked_law.ensures lens plan.recover plan.retry plan.paces (first_leads plan) fs missed ws (all_fresh plan.services 0 plan.slaves) l)
