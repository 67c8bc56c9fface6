use Rattle.std.proofs.Common.{[], length, sym, ap, ◌∙◌, arith}
use Rattle.std.proofs.lemmas.List.{length-map, length-replicate}
use Rattle.served_places.specs.of_segment_ring.Ring.{RingState}
use Rattle.packets_heard.specs.of_slave_node.Node.{Node}
use Rattle.packets_heard.specs.of_slave_server.Spec.{node_of}
use Rattle.packets_heard.specs.of_slave_server.declared.server.SlaveServer.{SlaveServer}
use Rattle.run_notes.specs.Slaves.{home_of}
use Rattle.run_notes.proofs.Firsts.{length_first}
use Rattle.run_record.proofs.Servings.{serving_begins}
use Rattle.run_record.proofs.session.Session.begin.Goals as goal

pub invariant_of-result : goal.invariant_of-result
invariant_of-result c =
    let nodes = ap (λ (r : RingState (Node SlaveServer)). length r.nodes) c.in_ok-new_ring.ensures ∙ length-map c.args.plan.now.slaves node_of in
    let notes = ap length c.in_ok-new-2.ensures.notes ∙ length_first c.args.plan.now.services 0 c.args.plan.now.slaves in
    let few = c.requires.laid.few_slaves in (
      sym (ap (λ (r : RingState (Node SlaveServer)). r.number) c.in_ok-new_ring.ensures),
      omega arith,
      c.budget_of.ensures.most,
      notes ∙ sym nodes,
      omega (arith, nodes, few),
      ap length c.in_ok-new-2.ensures.homes ∙ length-map c.args.plan.now.slaves home_of ∙ sym nodes,
      ap length c.in_ok-new-2.ensures.asked ∙ length-replicate (length c.args.plan.now.slaves) [] ∙ sym nodes,
      c.in_ok-new.ensures.posts ∙ sym nodes,
    )

pub returns-clause-switch : goal.returns-clause-switch
returns-clause-switch c = c.in_ok-new.ensures.begins

pub returns-clause-serves : goal.returns-clause-serves
returns-clause-serves c = serving_begins c.args.plan.now _ c.in_ok-new-2.ensures.notes c.in_ok-new.ensures.served c.in_ok-new-2.ensures.asked c.in_ok-new.ensures.waiting c.in_ok-new.ensures.tour c.in_ok-new.ensures.ports c.in_ok-new.ensures.joined c.in_ok-new.ensures.begins c.in_ok-new.ensures.knows c.in_ok-new_ring.ensures c.in_ok-new.ensures.counts
