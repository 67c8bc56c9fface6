use Rattle.std.proofs.Common.{◌≡◌, length}
use Rattle.scenario_values.proofs.Pairs.{Begun}
use Rattle.scenario_values.proofs.digits.decode_behind.Given as goal

abbrev pub invariant-octets : goal.invariant-octets
invariant-octets g l = (length l.buffer.items ≡ l.i) × Begun l.text l.buffer.items l.i
