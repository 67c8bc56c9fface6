use Rattle.std.proofs.Common.{◌≡◌, ◌≤◌, ◌+◌, ◌++◌, true, length, drop}
use Rattle.std.specs.Prelude.{count_by}
use Rattle.life_runs.specs.of_segment_plan.declared.slave.SlaveSpec.{SlaveSpec}
use Rattle.master_node.specs.Ported.{are_ports}
use Rattle.master_node.specs.Ports.{ports_behind}
use Rattle.master_node.proofs.lan.ports_of.Given as goal

abbrev pub invariant-loop-slave : goal.invariant-loop-slave
invariant-loop-slave l = record {
  ports : are_ports (l.last + 1) l.ports.items ≡ true;
  few : l.last ≤ l.slave-index;
  long : length l.ports.items ≡ l.slave-index;
  many : l.last + count_by (λ (s : SlaveSpec). s.eoe) (drop l.slave-index l.slaves) ≡ count_by (λ (s : SlaveSpec). s.eoe) l.slaves;
  each : l.ports.items ++ ports_behind l.last (drop l.slave-index l.slaves) ≡ ports_behind 0 l.slaves;
}
