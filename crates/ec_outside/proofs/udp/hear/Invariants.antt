use Rattle.std.proofs.Common.{◌≡◌, []}
use Rattle.ec_outside.proofs.udp.hear.Given as goal

abbrev pub invariant-loop : goal.invariant-loop
invariant-loop l = l.into.items ≡ []
