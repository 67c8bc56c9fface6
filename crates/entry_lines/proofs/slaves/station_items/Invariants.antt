use Rattle.std.proofs.Common.{◌≡◌, ◌++◌, drop}
use Rattle.std.specs.List.{flat_map}
use Rattle.entry_lines.specs.Slaves.{station_item}
use Rattle.entry_lines.proofs.slaves.station_items.Given as goal

abbrev pub invariant-loop-slave : goal.invariant-loop-slave
invariant-loop-slave l = l.items ++ flat_map station_item (drop l.slave-index l.slaves) ≡ flat_map station_item l.slaves
