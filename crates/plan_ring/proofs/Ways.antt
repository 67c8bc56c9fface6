-- Whether the access in hand is the same, behind a frame.
use Rattle.std.proofs.Common.{◌≡◌, inl, inr, ℕ, suc, ◌==◌, ◌&&◌, not, Bool, true, false, Option, Some, None, refl, ap, subst, if◌then◌else◌, arith, eq-eqb}
use Rattle.std.proofs.lemmas.Bool.{eqb-true, or_cases}
use Rattle.whole_ring.specs.of_life_model.Repairs.{Way, awaits_at, opening_way, half_way}
use Rattle.whole_ring.specs.of_life_model.Lives.{Opening}
use Rattle.whole_ring.specs.of_link_model.Master.{InState}
use Rattle.run_frames.specs.Goes.{is_same, stepped_behind}
use Rattle.run_frames.specs.of_segment_ring.Ring.{is_in_pace}

-- a way is the same as itself
pub itself : (w : Option Way) → is_same w w ≡ true
itself None = refl
itself (Some w) = go (w.rest == w.rest) w.awaits (eq-eqb w.rest w.rest refl)
  where
    go : (a b : Bool) → a ≡ true → (a && (if b then b else not b)) ≡ true
    go true true e = refl
    go true false e = refl
    go false b e = absurd (cc)

-- an access that awaits a step isn't the one before it
pub next_other : (o : Opening) → awaits_at o.again (suc o.step) ≡ true → is_same (Some (opening_way 1 1 o)) (Some (opening_way 1 1 (record o { step = suc o.step }))) ≡ false
next_other o e = by o.again o.step e
  where
    by : (again : Bool) (step : ℕ) → awaits_at again (suc step) ≡ true →
        is_same (Some (opening_way 1 1 (record o { again = again; step = step }))) (Some (opening_way 1 1 (record o { again = again; step = suc step }))) ≡ false
    by true step e = elim (or_cases (suc step == 2) (suc step == 9) e) [
      | inl two ↦ (let one : 1 ≡ step = (let s = eqb-true (suc step) 2 two in omega (arith, s)) in
          subst (λ n. is_same (Some (opening_way 1 1 (record o { again = true; step = n }))) (Some (opening_way 1 1 (record o { again = true; step = suc n }))) ≡ false) one refl)
      | inr nine ↦ (let eight : 8 ≡ step = (let s = eqb-true (suc step) 9 nine in omega (arith, s)) in
          subst (λ n. is_same (Some (opening_way 1 1 (record o { again = true; step = n }))) (Some (opening_way 1 1 (record o { again = true; step = suc n }))) ≡ false) eight refl)
    ]
    by false step e =
        let four : 4 ≡ step = (let s = eqb-true (suc step) 5 e in omega (arith, s)) in
        subst (λ n. is_same (Some (opening_way 1 1 (record o { again = false; step = n }))) (Some (opening_way 1 1 (record o { again = false; step = suc n }))) ≡ false) four refl

-- the read of the acknowledge is the same only as itself
pub same_asked : (s : InState) → is_same (half_way 1 1 s) (half_way 1 1 InState.Asked) ≡ true → s ≡ InState.Asked
same_asked InState.Clear e = absurd (cc)
same_asked InState.Doubt e = absurd (cc)
same_asked InState.Asked e = refl
same_asked InState.Refetch e = absurd (cc)

-- the clock, by whether the pace has a step
pub clock_in : (pace number : ℕ) (same stepped : Bool) → is_in_pace pace number ≡ true → stepped_behind pace number same stepped ≡ true
clock_in pace number same stepped e = ap (λ (b : Bool). if b then true else same && stepped) e

pub clock_out : (pace number : ℕ) (same stepped : Bool) → is_in_pace pace number ≡ false → stepped_behind pace number same stepped ≡ (same && stepped)
clock_out pace number same stepped e = ap (λ (b : Bool). if b then true else same && stepped) e
