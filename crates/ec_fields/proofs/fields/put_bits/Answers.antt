use Rattle.std.proofs.Common.{◌≡◌, ℕ, ◌<◌, ◌≤◌, ◌+◌, ◌*◌, ◌/◌, ◌%◌, ◌^◌, arith}
use Rattle.ec_fields.proofs.Puts.{bits_fit}
use Rattle.ec_fields.proofs.fields.put_bits.Goals as goal

-- the sum of the three parts is a word
inside :
    (word low count value a b d e : ℕ) → word < 2 ^ 16 → low + count ≤ 16 → value < 2 ^ count
    → a ≡ 2 ^ low → b ≡ 2 ^ low → d ≡ 2 ^ (low + count) → e ≡ 2 ^ (low + count)
    → word % a + value * b + word / d * e < 2 ^ 16
inside word low count value a b d e small within fits p q r s =
    rw (p, q, r, s) (bits_fit word low count value small within fits)

-- the same of the values that the function works out
sum_fits :
    (c : goal.After-power-4)
    → c.args.word % c.power.result + c.args.value * c.power-3.result + c.args.word / c.power-2.result * c.power-4.result < 2 ^ 16
sum_fits c =
    inside c.args.word c.args.low c.args.count c.args.value c.power.result c.power-3.result c.power-2.result c.power-4.result
    c.ranges.word.fits c.requires.inside c.requires.fits c.power.ensures c.power-3.ensures c.power-2.ensures c.power-4.ensures

pub overflow_add-result-2 : goal.overflow_add-result-2
overflow_add-result-2 c = record { fits = omega (arith, sum_fits c) }

pub overflow_cast-result-2 : goal.overflow_cast-result-2
overflow_cast-result-2 c = record { fits = sum_fits c }
