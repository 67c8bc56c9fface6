use Rattle.std.proofs.Common.{◌≡◌, ◌++◌, drop, map}
use Rattle.packets_heard.specs.of_slave_server.Spec.{node_of}
use Rattle.run_record.proofs.session.new_nodes.Given as goal

abbrev pub invariant-loop-spec : goal.invariant-loop-spec
invariant-loop-spec l = l.nodes ++ map node_of (drop l.spec-index l.slaves) ≡ map node_of l.slaves
