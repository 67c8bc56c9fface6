-- A third of the smaller mailbox, and how many of it a value has.
use Rattle.std.proofs.Common.{◌≡◌, ℕ, suc, ◌+◌, ◌-◌, ◌*◌, ◌/◌, ◌<◌, ◌≤◌, inl, inr, Bool, true, false, not, List, [], ◌∷◌, cond, length, refl, arith, nat_le, le-leb, if◌then◌else◌}
use Rattle.std.proofs.lemmas.Bool.{cases_lt, lt-leb}
use Rattle.std.proofs.lemmas.Nat.{le-div}
use Rattle.std.proofs.Math.Nat.{div-mul-le_self}
use Rattle.slave_parts.specs.of_exchange_model.Areas.{Areas, AreMailboxes}
use Rattle.slave_parts.specs.of_exchange_model.Exchange.{plain, emitted}
use Rattle.few_replies.specs.Counts.{third}

-- what a third is less than
pub record Fits (areas : Areas) : Type 0 where
  pub some : 0 < third areas
  pub out : third areas + 16 ≤ areas.out
  pub back : third areas + 16 ≤ areas.back

smaller_fits : (a b : ℕ) → 64 ≤ a → 64 ≤ b → (64 ≤ (if nat_le a b then a else b)) × ((if nat_le a b then a else b) ≤ a) × ((if nat_le a b then a else b) ≤ b)
smaller_fits a b p q = elim (cases_lt b a) [
  | inl less ↦ rw (lt-leb a b less) (q, omega arith, omega arith)
  | inr more ↦ rw (le-leb a b more) (p, omega arith, more)
]

pub fits : (areas : Areas) → AreMailboxes areas → Fits areas
fits areas sized =
    let s = smaller_fits areas.out areas.back sized.out_least sized.back_least in
    record { some = omega (arith, s.0); out = omega (arith, s.0, s.1); back = omega (arith, s.0, s.2) }

-- a part that is a third at least leaves one third less
pub one_less : (w part len : ℕ) → 0 < w → w ≤ part → part ≤ len → suc ((len - part) / w) ≤ len / w
one_less w part len some wide more =
    let whole : (len - part) / w * w ≤ len - part = div-mul-le_self (len - part) w in
    let all : suc ((len - part) / w) * w ≤ len = omega arith in
    le-div (suc ((len - part) / w)) len w some all

-- mails are replies and emissions
pub both_kinds : {M : Type 0} (emission : M → Bool) (ms : List M) → length ms ≡ length (plain emission ms) + length (emitted emission ms)
both_kinds emission [] = refl
both_kinds emission (m ∷ ms) = one (emission m) (both_kinds emission ms)
  where
    one : (b : Bool) → length ms ≡ length (plain emission ms) + length (emitted emission ms) →
        suc (length ms) ≡ length (cond (not b) (m ∷ plain emission ms) (plain emission ms)) + length (cond b (m ∷ emitted emission ms) (emitted emission ms))
    one true e = omega (arith, e)
    one false e = omega (arith, e)
