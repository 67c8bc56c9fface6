use Rattle.std.proofs.Common.{◌≤◌, length}
use Rattle.ec_outside.proofs.disk.read_whole.Given as goal

abbrev pub invariant-loop : goal.invariant-loop
invariant-loop g l = length l.into ≤ l.limit
