-- How many packets of a file are full.
use Rattle.std.proofs.Common.{◌≡◌, ℕ, suc, ◌-◌, ◌/◌, ◌<◌, ◌≤◌, ◌∙◌, arith}
use Rattle.std.proofs.Math.Nat.{div-eq-sub-div, div-eq_of_lt}

pub none_full : (part len : ℕ) → len < part → len / part ≡ 0
none_full part len less = div-eq_of_lt less

pub one_full : (part len : ℕ) → 0 < part → part ≤ len → len / part ≡ suc ((len - part) / part)
one_full part len some more = div-eq-sub-div some more ∙ omega arith
