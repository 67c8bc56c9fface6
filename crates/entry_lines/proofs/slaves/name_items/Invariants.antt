use Rattle.std.proofs.Common.{◌≡◌, ◌++◌, drop}
use Rattle.std.specs.List.{flat_map}
use Rattle.entry_lines.specs.Slaves.{name_item}
use Rattle.entry_lines.proofs.slaves.name_items.Given as goal

abbrev pub invariant-loop-slave : goal.invariant-loop-slave
invariant-loop-slave l = l.items ++ flat_map name_item (drop l.slave-index l.slaves) ≡ flat_map name_item l.slaves
