-- One step of the walk from datagram to datagram.
use Rattle.std.proofs.Common.{◌≡◌, ℕ, zero, suc, ◌+◌, ◌-◌, ◌≤◌, Bool, true, false, List, [], ◌∷◌, length, drop, refl, ap, sym, ◌∙◌, arith, length-drop}
use Rattle.std.specs.Prelude.{nat_lt, if◌then◌else◌}
use Rattle.std.proofs.lemmas.Bool.{ltb-false}
use Rattle.std.proofs.lemmas.List.{drop-drop}
use Rattle.datagrams.specs.Datagram.{body_length}
use Rattle.ethercat_places.specs.declared.frame.Ending.{Ending}
use Rattle.ethercat_places.specs.declared.frame.Ending.TheVariants.{Last, Torn, Beyond}
use Rattle.ethercat_places.specs.declared.frame.Step.TheVariants.{On, End}
use Rattle.ethercat_places.specs.Frame.{says_more, step_of, ended_at, walk_by, walk_within}

-- the walk has seen so many datagrams and stands at a place
pub record IsWalking (octets : List ℕ) (size before at : ℕ) : Type 0 where
  pub most : ℕ
  pub enough : length (drop at octets) ≤ most
  pub same : walk_within most before (size - at) (drop at octets) ≡ walk_within (length octets) 0 size octets

pub walk_begins : (octets : List ℕ) (size : ℕ) → IsWalking octets size 0 0
walk_begins octets size =
    let none : size - 0 ≡ size = omega arith in
    record { most = length octets; enough = omega arith; same = ap (λ (n : ℕ). walk_within (length octets) 0 n octets) none }

nothing : (octets : List ℕ) → length octets ≤ 0 → octets ≡ []
nothing [] e = refl
nothing (x ∷ xs) e = absurd (omega arith)

walk_some : (most before left : ℕ) (rest : List ℕ) (ending : Ending) → length rest ≤ most → step_of left rest ≡ End ending
    → walk_within most before left rest ≡ ended_at before ending
walk_some zero before left rest ending few e =
    let none : step_of left rest ≡ End Torn = ap (step_of left) (nothing rest few) in
    let torn : Torn ≡ ending = cc in
    ap (ended_at before) torn
walk_some (suc most) before left rest ending few e =
    ap (walk_by before (λ (n : ℕ). walk_within most (before + 1) (left - n) (drop n rest))) e

-- it ends
pub walk_ends : (octets : List ℕ) (size before at : ℕ) (ending : Ending) → IsWalking octets size before at → End ending ≡ step_of (size - at) (drop at octets)
    → ended_at before ending ≡ walk_within (length octets) 0 size octets
walk_ends octets size before at ending w e = sym (walk_some w.most before (size - at) (drop at octets) ending w.enough (sym e)) ∙ w.same

step_test : (torn beyond more cut : Bool) (n step : ℕ)
    → (if torn then End Torn else if beyond then End Beyond else if more then On n else End (Last cut)) ≡ On step
    → (torn ≡ false) × (beyond ≡ false) × (step ≡ n)
step_test true beyond more cut n step e = cc
step_test false true more cut n step e = cc
step_test false false true cut n step e = (refl, refl, cc)
step_test false false false cut n step e = cc

-- a step passes a datagram, which lies within the length
pub step_size : (left step : ℕ) (rest : List ℕ) → On step ≡ step_of left rest → (12 ≤ step) × (step ≤ left) × (10 ≤ length rest)
step_size left step rest e =
    let t = step_test (nat_lt (length rest) 10) (nat_lt left (12 + body_length rest)) (says_more rest) (nat_lt (length rest) (12 + body_length rest))
    (12 + body_length rest) step (sym e) in
    let a = ltb-false (length rest) 10 t.0 in
    let b = ltb-false left (12 + body_length rest) t.1 in
    let same = t.2 in
    (omega arith, omega arith, omega arith)

go_on : (octets : List ℕ) (size before at step most : ℕ) → length (drop at octets) ≤ most
    → walk_within most before (size - at) (drop at octets) ≡ walk_within (length octets) 0 size octets → On step ≡ step_of (size - at) (drop at octets)
    → IsWalking octets size (before + 1) (at + step)
go_on octets size before at step zero few same e =
    let s = step_size (size - at) step (drop at octets) e in
    absurd (omega arith)
go_on octets size before at step (suc n) few same e =
    let s = step_size (size - at) step (drop at octets) e in
    let moved : walk_within (suc n) before (size - at) (drop at octets) ≡ walk_within n (before + 1) (size - at - step) (drop step (drop at octets)) =
    ap (walk_by before (λ (m : ℕ). walk_within n (before + 1) (size - at - m) (drop m (drop at octets)))) (sym e) in
    let left : size - (at + step) ≡ size - at - step = omega arith in
    record {
      most = n;
      enough = omega (arith, length-drop {A = ℕ});
      same =
          ap (λ (k : ℕ). walk_within n (before + 1) k (drop (at + step) octets)) left
          ∙ ap (λ (x : List ℕ). walk_within n (before + 1) (size - at - step) x) (sym (drop-drop step at octets)) ∙ sym moved ∙ same;
    }

-- it goes on
pub walk_on : (octets : List ℕ) (size before at step : ℕ) → IsWalking octets size before at → On step ≡ step_of (size - at) (drop at octets)
    → IsWalking octets size (before + 1) (at + step)
walk_on octets size before at step w e = go_on octets size before at step w.most w.enough w.same e
