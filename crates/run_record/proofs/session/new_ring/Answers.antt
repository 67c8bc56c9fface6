use Rattle.std.proofs.Common.{sym, ap, ◌∙◌, subst, length, map}
use Rattle.served_places.specs.of_segment_ring.Ring.{ArePaces, AllFew}
use Rattle.served_places.specs.of_segment_ring.Schedule.{Rises}
use Rattle.packets_heard.specs.of_slave_node.Node.{Node}
use Rattle.packets_heard.specs.of_slave_server.declared.server.SlaveServer.{SlaveServer}
use Rattle.packets_heard.specs.of_slave_server.Spec.{node_of}
use Rattle.run_record.proofs.Plans.{paces_are, lost_rise, few_new}
use Rattle.run_record.proofs.session.new_ring.Goals as goal

pub new-requires-clause-paces : goal.new-requires-clause-paces
new-requires-clause-paces c = subst ArePaces (sym (c.in_ok-paces.ensures ∙ c.as_slice-2.ensures)) (paces_are c.args.plan.now.paces c.requires.laid.pace)

pub new-requires-clause-lose : goal.new-requires-clause-lose
new-requires-clause-lose c =
    subst Rises (sym (c.in_ok-lose.ensures ∙ c.as_slice-3.ensures)) (lost_rise (length c.args.plan.now.slaves) 0 c.args.plan.now.lose c.requires.lose).1

pub new-requires-clause-few : goal.new-requires-clause-few
new-requires-clause-few c =
    subst (AllFew (λ (n : Node SlaveServer). n.server.server.handled) 9223372036854775808) (sym (c.in_ok-nodes.ensures ∙ ap (λ s. map node_of s) c.as_slice.ensures)) (few_new c.args.plan.now.slaves)
