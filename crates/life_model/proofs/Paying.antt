-- The frames of a run are paid.
use Rattle.std.proofs.Common.{◌≡◌, ℕ, suc, ◌+◌, ◌*◌, ◌≤◌, ◌<◌, refl, arith}
use Rattle.std.proofs.lemmas.Nat.{mul-le}
use Rattle.life_model.specs.Tally.{Tally, Counts, Counted, IsPaid, new_tally, broken, quiet}

-- one more costs its price
one_more : (n k : ℕ) → suc n * k ≡ n * k + k
one_more n k = omega arith

-- at least one more
costs : (m n k : ℕ) → suc m ≤ n → m * k + k ≤ n * k
costs m n k l = omega (arith, one_more m k, mul-le (suc m) k n k l (omega arith))

grows : (m n k : ℕ) → m ≤ n → m * k ≤ n * k
grows m n k l = mul-le m k n k l (omega arith)

sum_lost : (slaves pace first : ℕ) (a b : Tally) → IsPaid slaves pace first a → b.frames ≡ suc a.frames → b.lost ≡ suc a.lost → b.gains ≡ a.gains → b.reopened ≡ a.reopened → b.repair ≤ a.repair + broken slaves pace → b.still ≡ 0 → IsPaid slaves pace first b
sum_lost slaves pace first a b p f l g o r s =
    let lost = costs a.lost b.lost (1 + broken slaves pace + quiet slaves pace) (omega (arith, l)) in
    let gains = grows a.gains b.gains (1 + quiet slaves pace) (omega (arith, g)) in
    let open_again = grows a.reopened b.reopened (broken slaves pace) (omega (arith, o)) in
    record { still = omega (arith, s); sum = omega (arith, p.still, p.sum, f, r, s, lost, gains, open_again) }

sum_repairs : (slaves pace first : ℕ) (a b : Tally) → IsPaid slaves pace first a → b.frames ≡ suc a.frames → b.lost ≡ a.lost → a.gains ≤ b.gains → b.reopened ≡ a.reopened → suc b.repair ≤ a.repair → b.still ≡ a.still → IsPaid slaves pace first b
sum_repairs slaves pace first a b p f l g o r s =
    let lost = grows a.lost b.lost (1 + broken slaves pace + quiet slaves pace) (omega (arith, l)) in
    let gains = grows a.gains b.gains (1 + quiet slaves pace) g in
    let open_again = grows a.reopened b.reopened (broken slaves pace) (omega (arith, o)) in
    record { still = omega (arith, s, p.still); sum = omega (arith, p.still, p.sum, f, r, s, lost, gains, open_again) }

sum_gains : (slaves pace first : ℕ) (a b : Tally) → IsPaid slaves pace first a → b.frames ≡ suc a.frames → b.lost ≡ a.lost → suc a.gains ≤ b.gains → b.reopened ≡ a.reopened → b.repair ≤ a.repair → b.still ≡ 0 → IsPaid slaves pace first b
sum_gains slaves pace first a b p f l g o r s =
    let lost = grows a.lost b.lost (1 + broken slaves pace + quiet slaves pace) (omega (arith, l)) in
    let gains = costs a.gains b.gains (1 + quiet slaves pace) g in
    let open_again = grows a.reopened b.reopened (broken slaves pace) (omega (arith, o)) in
    record { still = omega (arith, s); sum = omega (arith, p.still, p.sum, f, r, s, lost, gains, open_again) }

sum_reopens : (slaves pace first : ℕ) (a b : Tally) → IsPaid slaves pace first a → b.frames ≡ suc a.frames → b.lost ≡ a.lost → suc a.gains ≤ b.gains → suc a.reopened ≤ b.reopened → b.repair ≤ a.repair + broken slaves pace → b.still ≡ 0 → IsPaid slaves pace first b
sum_reopens slaves pace first a b p f l g o r s =
    let lost = grows a.lost b.lost (1 + broken slaves pace + quiet slaves pace) (omega (arith, l)) in
    let gains = costs a.gains b.gains (1 + quiet slaves pace) g in
    let open_again = costs a.reopened b.reopened (broken slaves pace) o in
    record { still = omega (arith, s); sum = omega (arith, p.still, p.sum, f, r, s, lost, gains, open_again) }

sum_nothing : (slaves pace first : ℕ) (a b : Tally) → IsPaid slaves pace first a → b.frames ≡ suc a.frames → b.lost ≡ a.lost → b.gains ≡ a.gains → b.reopened ≡ a.reopened → b.repair ≤ a.repair → b.still ≡ suc a.still → b.still ≤ quiet slaves pace → IsPaid slaves pace first b
sum_nothing slaves pace first a b p f l g o r s q =
    let lost = grows a.lost b.lost (1 + broken slaves pace + quiet slaves pace) (omega (arith, l)) in
    let gains = grows a.gains b.gains (1 + quiet slaves pace) (omega (arith, g)) in
    let open_again = grows a.reopened b.reopened (broken slaves pace) (omega (arith, o)) in
    record { still = q; sum = omega (arith, p.still, p.sum, f, r, s, lost, gains, open_again) }

paid_by : (slaves pace first : ℕ) (a b : Tally) → IsPaid slaves pace first a → Counts slaves pace a b → IsPaid slaves pace first b
paid_by slaves pace first a b p (Counts.lost f l g o r s) = sum_lost slaves pace first a b p f l g o r s
paid_by slaves pace first a b p (Counts.repairs f l g o r s) = sum_repairs slaves pace first a b p f l g o r s
paid_by slaves pace first a b p (Counts.gains f l g o r s) = sum_gains slaves pace first a b p f l g o r s
paid_by slaves pace first a b p (Counts.reopens f l g o r s) = sum_reopens slaves pace first a b p f l g o r s
paid_by slaves pace first a b p (Counts.nothing f l g o r s q) = sum_nothing slaves pace first a b p f l g o r s q

pub paid : (slaves pace first : ℕ) (t : Tally) → Counted slaves pace (new_tally first) t → IsPaid slaves pace first t
paid slaves pace first t Counted.none = record { still = omega arith; sum = omega arith }
paid slaves pace first t (Counted.more b c on by) = paid_by slaves pace first b t (paid slaves pace first b on) by

-- THE SUM
prices : (slaves pace product : ℕ) → 1 ≤ slaves → 1 ≤ pace → product ≡ pace * slaves → slaves ≤ product → (1 + broken slaves pace + quiet slaves pace ≤ 16 * product + 16 * pace) × (1 + quiet slaves pace ≤ 16 * product + 16 * pace)
prices slaves pace product n p e m = (omega (arith, n, p, m), omega (arith, n, p, m))

firsts : (slaves pace product first whole : ℕ) → 1 ≤ slaves → 1 ≤ pace → product ≡ pace * slaves → slaves ≤ product → first ≤ slaves * (5 + pace) → whole ≡ 16 * product + 16 * pace → first + quiet slaves pace < 2 * slaves * whole
firsts slaves pace product first whole n p e m f w =
    let more : 2 * 1 * whole ≤ 2 * slaves * whole = mul-le (2 * 1) whole (2 * slaves) whole (omega (arith, n)) (omega arith) in
    let spread : slaves * (5 + pace) ≡ 5 * slaves + product = omega (arith, e) in
    omega (arith, n, p, m, f, w, more, spread)

pub within : (slaves pace first work lost : ℕ) (t : Tally) → 1 ≤ slaves → 1 ≤ pace → first ≤ slaves * (5 + pace) → Counted slaves pace (new_tally first) t → t.gains + t.reopened ≤ work → t.lost ≤ lost →
    t.frames < 16 * pace * (slaves + 1) * (work + lost + 2 * slaves)
within slaves pace first work lost t n p f c g l =
    let product = pace * slaves in
    let whole = 16 * pace * (slaves + 1) in
    let is : whole ≡ 16 * product + 16 * pace = omega arith in
    let least : slaves ≤ product = omega (arith, mul-le 1 slaves pace slaves p (omega arith)) in
    let price = prices slaves pace product n p refl least in
    let done = paid slaves pace first t c in
    let by_lost : t.lost * (1 + broken slaves pace + quiet slaves pace) ≤ lost * whole = mul-le t.lost (1 + broken slaves pace + quiet slaves pace) lost whole l (omega (arith, is, price.0)) in
    let by_gains : t.gains * (1 + quiet slaves pace) ≤ t.gains * whole = mul-le t.gains (1 + quiet slaves pace) t.gains whole (omega arith) (omega (arith, is, price.1)) in
    let by_reopened : t.reopened * broken slaves pace ≤ t.reopened * whole = mul-le t.reopened (broken slaves pace) t.reopened whole (omega arith) (omega (arith, is, price.0)) in
    let by_work : (t.gains + t.reopened) * whole ≤ work * whole = mul-le (t.gains + t.reopened) whole work whole g (omega arith) in
    let both : (t.gains + t.reopened) * whole ≡ t.gains * whole + t.reopened * whole = omega arith in
    let by_first : first + quiet slaves pace < 2 * slaves * whole = firsts slaves pace product first whole n p refl least f is in
    let sum : whole * (work + lost + 2 * slaves) ≡ work * whole + lost * whole + 2 * slaves * whole = omega arith in
    omega (arith, done.sum, done.still, by_lost, by_gains, by_reopened, by_work, both, by_first, sum)
