use Rattle.std.proofs.Common.{length, ◌-◌}
use Rattle.datagrams.proofs.Steps.{IsReading}
use Rattle.datagrams.proofs.reading.read_parts.Given as goal

abbrev pub invariant-datagrams : goal.invariant-datagrams
invariant-datagrams l = IsReading l.octets l.parts.items l.start

abbrev pub decreases-datagrams : goal.decreases-datagrams
decreases-datagrams l = length l.octets - l.start
