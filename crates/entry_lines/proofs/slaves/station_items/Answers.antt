use Rattle.std.proofs.Common.{arith}
use Rattle.entry_lines.specs.Slaves.{station_item}
use Rattle.entry_lines.proofs.Told.{all_told}
use Rattle.entry_lines.proofs.slaves.station_items.Goals as goal

pub returns : goal.returns
returns c = all_told station_item c.args.slaves.now c.loop-slave.slave-index c.loop-slave.items (omega arith) c.loop-slave.invariant
