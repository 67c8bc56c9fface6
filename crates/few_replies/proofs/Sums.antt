-- What a datagram that is heard costs, and what the bound counts for it.
use Rattle.std.proofs.Common.{ℕ, zero, suc, ◌+◌, ◌*◌, ◌≤◌, arith}
use Rattle.slave_parts.specs.of_life_model.Tally.{quiet}

pub quiet_few : (slaves pace : ℕ) → 1 ≤ pace → suc (quiet slaves pace) ≤ 4 * (pace * (slaves + 1))
quiet_few slaves zero some = omega (arith, some)
quiet_few slaves (suc pace) some = omega arith

pub enough : (slaves pace still : ℕ) → suc still ≤ 24 * (pace * (slaves + 1)) → (2 + 76 + 4) * suc still ≤ 16 * pace * (slaves + 1) * 128
enough slaves pace still few = omega (arith, few)
