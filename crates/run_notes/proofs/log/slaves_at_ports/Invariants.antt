use Rattle.std.proofs.Common.{◌≡◌, ◌+◌, ◌++◌, length, drop}
use Rattle.std.specs.Prelude.{count_by}
use Rattle.run_book.specs.of_segment_plan.declared.slave.SlaveSpec.{SlaveSpec}
use Rattle.run_notes.specs.Counted.{slaves_at}
use Rattle.run_notes.proofs.log.slaves_at_ports.Given as goal

abbrev pub invariant-loop-at : goal.invariant-loop-at
invariant-loop-at l = record {
  many : length l.ports + count_by (λ (s : SlaveSpec). s.eoe) (drop l.at l.slaves) ≡ count_by (λ (s : SlaveSpec). s.eoe) l.slaves;
  each : l.ports ++ slaves_at l.at (drop l.at l.slaves) ≡ slaves_at 0 l.slaves;
}
