-- The clock of a slave's steps, and its place behind the slave carried last.
use Rattle.std.proofs.Common.{◌≡◌, ◌⊎◌, ℕ, suc, ◌+◌, ◌-◌, ◌%◌, ◌<◌, ◌≤◌, ◌==◌, Bool, true, false, Option, Some, None, refl, ap, ◌∙◌, arith, if◌then◌else◌, inl, inr}
use Rattle.std.specs.Prelude.{nat_le, nat_lt, ◌&&◌}
use Rattle.std.proofs.Math.Nat.{mod-lt, mod-eq_of_lt, suc-mod, mod_self}
use Rattle.std.proofs.lemmas.Bool.{leb-true, leb-false, cases_lt}
use Rattle.run_frames.specs.Clocks.{clock_at, start_of, before_in, ahead_at}
use Rattle.run_frames.specs.Goes.{stepped_behind}

pub clock_some : (pace number : ℕ) → 1 ≤ pace → 1 ≤ clock_at pace number
clock_some pace number p = let less : number % pace < pace = mod-lt number (omega (arith, p)) in omega (arith, less)

pub clock_most : (pace number : ℕ) → clock_at pace number ≤ pace
clock_most pace number = omega arith

-- where no step comes behind this frame, it comes nearer
mod_on : (pace number : ℕ) → 1 ≤ pace → (suc number % pace == 0) ≡ false → suc number % pace ≡ suc (number % pace)
mod_on pace number p e = elim (cases_lt (suc (number % pace)) pace) [
  | inl less ↦ suc-mod number pace ∙ mod-eq_of_lt less
  | inr more ↦ absurd (
      let less : number % pace < pace = mod-lt number (omega (arith, p)) in
      let same : suc (number % pace) ≡ pace = omega (arith, less, more) in
      let none : suc number % pace ≡ 0 = suc-mod number pace ∙ ap (λ z. z % pace) same ∙ mod_self pace in
      let is : (suc number % pace == 0) ≡ true = ap (λ z. z == 0) none in
      cc)
]

pub ticks_on : (pace number : ℕ) (same stepped : Bool) → 1 ≤ pace → (stepped_behind pace number same stepped ≡ true) ⊎ (suc (clock_at pace (suc number)) ≤ clock_at pace number)
ticks_on pace number same stepped p = go (suc number % pace == 0) refl
  where
    go : (b : Bool) → (suc number % pace == 0) ≡ b → ((if b then true else same && stepped) ≡ true) ⊎ (suc (clock_at pace (suc number)) ≤ clock_at pace number)
    go true e = inl refl
    go false e =
        let less : number % pace < pace = mod-lt number (omega (arith, p)) in
        let on = mod_on pace number p e in
        inr (omega (arith, on, less, mod-lt (suc number) {m = pace} (omega (arith, p))))

-- a step comes behind this frame, or nearer
pub step_or : (pace number : ℕ) → 1 ≤ pace → ((suc number % pace == 0) ≡ true) ⊎ (suc (clock_at pace (suc number)) ≤ clock_at pace number)
step_or pace number p = go (suc number % pace == 0) refl
  where
    go : (b : Bool) → (suc number % pace == 0) ≡ b → ((suc number % pace == 0) ≡ true) ⊎ (suc (clock_at pace (suc number)) ≤ clock_at pace number)
    go true e = inl e
    go false e =
        let less : number % pace < pace = mod-lt number (omega (arith, p)) in
        let on = mod_on pace number p e in
        inr (omega (arith, on, less, mod-lt (suc number) {m = pace} (omega (arith, p))))

pub stepped_stays : (pace number : ℕ) (same stepped : Bool) → same ≡ true → stepped ≡ true → stepped_behind pace number same stepped ≡ true
stepped_stays pace number same stepped e f = go (suc number % pace == 0) same stepped e f
  where
    go : (a b c : Bool) → b ≡ true → c ≡ true → (if a then true else b && c) ≡ true
    go true b c e f = refl
    go false true true e f = refl
    go false false c e f = absurd (cc)
    go false true false e f = absurd (cc)

-- A ROUND begins at a place of the ring, or behind its last
pub start_in : (count : ℕ) (last : Option ℕ) → start_of count last ≤ count
start_in count None = omega arith
start_in count (Some last) = go (nat_lt last count) refl
  where
    go : (b : Bool) → nat_lt last count ≡ b → (if b then last + 1 else 0) ≤ count
    go true e = (let less = leb-true (suc last) count e in omega (arith, less))
    go false e = omega arith

pub before_less : (count start place : ℕ) → start ≤ count → place < count → before_in count start place < count
before_less count start place s p = go (nat_le start place) refl
  where
    go : (b : Bool) → nat_le start place ≡ b → (if b then place - start else place + (count - start)) < count
    go true e = omega (arith, p)
    go false e = (let less = leb-false start place e in omega (arith, p, s, less))

pub ahead_less : (count : ℕ) (last : Option ℕ) (place : ℕ) → place < count → ahead_at count last place < count
ahead_less count last place p = before_less count (start_of count last) place (start_in count last) p
