use Rattle.std.proofs.Common.{List, length, ◌-◌}
use Rattle.datagrams.specs.declared.frame.Part.{Part}
use Rattle.datagrams.proofs.Steps.{IsReading}
use Rattle.datagrams.proofs.reading.walk.Given as goal

abbrev pub invariant-datagrams : goal.invariant-datagrams
invariant-datagrams l = (parts : List Part) × IsReading l.octets parts l.start

abbrev pub decreases-datagrams : goal.decreases-datagrams
decreases-datagrams l = length l.octets - l.start
