use Rattle.std.proofs.Common.{◌≡◌, ◌∙◌, ap, ℕ, ◌+◌, ◌-◌, ◌*◌, ◌/◌, ◌%◌, ◌^◌, ◌<◌, ◌≤◌, List, ◌++◌, length, take, drop, arith, sym, length-drop}
use Rattle.std.proofs.lemmas.Grind.{common_steps, pieces}
use Rattle.std.proofs.lemmas.Nat.{pow-add, pow_pos}
use Rattle.std.proofs.Math.Nat.{mod-lt, div-lt_iff_lt-mul, mul-le-mul_right}
use borrow.Rule.Slice.PartMut.{put_mid, mid_of}

-- what a write at the head of the part from a place leaves of the whole
pub put_rest :
    (n at : ℕ) (octets number after : List ℕ) → at + n ≤ length octets
    → after ≡ number ++ drop n (mid_of at (length octets - at) octets)
    → put_mid at (length octets - at) octets after ≡ take at octets ++ (number ++ drop (at + n) octets)
put_rest n at octets number after inside is = grind (arith, common_steps, pieces, length-drop)

-- a field that fits its bits, put between the bits below and above it, fits the word
pub bits_fit :
    (word low count value : ℕ) → word < 2 ^ 16 → low + count ≤ 16 → value < 2 ^ count
    → word % 2 ^ low + value * 2 ^ low + word / 2 ^ (low + count) * 2 ^ (low + count) < 2 ^ 16
bits_fit word low count value small inside fits =
    let whole : 2 ^ (low + count) ≡ 2 ^ low * 2 ^ count = pow-add 2 low count in
    let parts : 2 ^ 16 ≡ 2 ^ (16 - (low + count)) * 2 ^ (low + count) =
    let e : 16 - (low + count) + (low + count) ≡ 16 = omega arith in
    sym (ap (λ n. 2 ^ n) e) ∙ pow-add 2 (16 - (low + count)) (low + count) in
    let below : word % 2 ^ low < 2 ^ low = mod-lt word (pow_pos low) in
    let above : word / 2 ^ (low + count) < 2 ^ (16 - (low + count)) =
    (div-lt_iff_lt-mul (pow_pos (low + count))).1 (let h : word < 2 ^ (16 - (low + count)) * 2 ^ (low + count) = omega (arith, parts) in h) in
    let field : (value + 1) * 2 ^ low ≤ 2 ^ count * 2 ^ low = mul-le-mul_right (2 ^ low) (omega arith) in
    let top : (word / 2 ^ (low + count) + 1) * 2 ^ (low + count) ≤ 2 ^ (16 - (low + count)) * 2 ^ (low + count) =
    mul-le-mul_right (2 ^ (low + count)) (omega arith) in
    omega (arith, whole, parts, below, field, top)
