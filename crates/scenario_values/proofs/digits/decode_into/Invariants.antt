use Rattle.std.proofs.Common.{◌≡◌, ◌*◌, length}
use Rattle.scenario_values.proofs.Pairs.{Decoded}
use Rattle.scenario_values.proofs.digits.decode_into.Given as goal

abbrev pub invariant-octets : goal.invariant-octets
invariant-octets l = (length l.text ≡ 2 * length l.out) × Decoded l.text l.out l.i
