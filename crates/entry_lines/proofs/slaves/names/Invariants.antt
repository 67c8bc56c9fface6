use Rattle.std.proofs.Common.{◌≡◌, ◌++◌, drop, map}
use Rattle.std.specs.List.{flat_map}
use Rattle.entry_lines.specs.Slaves.{name_list}
use Rattle.entry_lines.proofs.slaves.names.Given as goal

abbrev pub invariant-loop-slave : goal.invariant-loop-slave
invariant-loop-slave l = map (λ name. name.now) l.names.items ++ flat_map name_list (drop l.slave-index l.slaves) ≡ flat_map name_list l.slaves
