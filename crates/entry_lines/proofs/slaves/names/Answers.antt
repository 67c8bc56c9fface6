use Rattle.std.proofs.Common.{arith, map}
use Rattle.entry_lines.specs.Slaves.{name_list}
use Rattle.entry_lines.proofs.Told.{all_told}
use Rattle.entry_lines.proofs.slaves.names.Goals as goal

pub returns : goal.returns
returns c = all_told name_list c.args.slaves.now c.loop-slave.slave-index (map (λ name. name.now) c.loop-slave.names.items) (omega arith) c.loop-slave.invariant
