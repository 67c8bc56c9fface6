use Rattle.std.proofs.Common.{◌≡◌, ℕ, List, [], ◌∷◌, ◌++◌, length, sym, ◌∙◌, subst}
use Rattle.std.proofs.lemmas.List.{length-map}
use Rattle.idle_slaves.specs.of_datagrams.Frame.{chained}
use Rattle.idle_slaves.specs.of_frame_view.Seen.{seen}
use Rattle.idle_slaves.proofs.of_frame_view.Octets.{seen_chained}
use Rattle.idle_slaves.specs.of_life_runs.First.{lens_of}
use Rattle.idle_slaves.specs.of_plan_ring.PlanMet.{AllMet}
use Rattle.idle_slaves.specs.of_plan_ring.Round.{all_seen, frame_seen, ring_after, ring_of}
use Rattle.idle_slaves.proofs.of_plan_ring.Known.{macs_in}
use Rattle.idle_slaves.proofs.of_plan_ring.Lives.{front_round, last_round}
use Rattle.idle_slaves.specs.of_life_runs.Served.{AllServedTurn}
use Rattle.seen_slaves.specs.Eager.{leads_of}
use Rattle.seen_slaves.proofs.Dues.{all_due}
use Rattle.seen_slaves.proofs.Meets.{served_met}
use Rattle.seen_slaves.proofs.Seats.{Laws, nodes_are}
use Rattle.seen_slaves.proofs.served_waits.served_due_law.Goals as goal
use Rattle.idle_slaves.specs.of_slave_server.Serving.{Serving}
use Rattle.idle_slaves.specs.of_slave_node.Node.{Node}

pub returns : goal.returns
returns c = λ plan is known fs missed ws f vs led frame round pass.
    let lens = lens_of plan.slaves in
    let laws : Laws = record { speaks = c.any_law.ensures.speaks; runs = c.any_law.ensures.runs; never = c.parts_never.ensures } in
    let x = c.served_ring_law.ensures plan is known fs missed ws led (front_round (ring_of plan) fs f round) in
    let many : length (all_seen lens fs) ≡ length fs = length-map fs (frame_seen lens) in
    let turns : AllServedTurn lens (length (all_seen lens fs)) frame.datagrams ws vs = subst (λ (n : ℕ). AllServedTurn lens n frame.datagrams ws vs) (sym many) frame.each in
    let met : AllMet lens (seen lens f.sent) (seen lens f.back) (length fs) plan.slaves (leads_of ws) plan.paces x.nodes (ring_after (ring_of plan) (fs ++ f ∷ [])).nodes =
    subst (λ (ns : List (Node Serving)). AllMet lens (seen lens f.sent) (seen lens f.back) (length fs) plan.slaves (leads_of ws) plan.paces ns (ring_after (ring_of plan) (fs ++ f ∷ [])).nodes) (x.lives.nodes ∙ nodes_are plan 0 plan.slaves ws x.nodes x.at)
    (served_met plan is known fs ws f vs x frame (last_round (ring_of plan) fs f round) pass) in
    all_due laws c.parts_hear.ensures plan (all_seen lens fs) f.sent (seen lens f.back) frame.datagrams (c.seen_is.ensures lens f.sent (chained frame.datagrams) frame.frame ∙ seen_chained lens frame.datagrams)
    0 (length fs) plan.slaves ws vs plan.paces x.nodes (ring_after (ring_of plan) (fs ++ f ∷ [])).nodes is.laid.slaves (macs_in plan.slaves known.macs) x.led x.lives.each x.at turns met
