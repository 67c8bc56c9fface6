-- The script of a slave.
use Rattle.std.proofs.Common.{◌≡◌, ◌<◌, ◌≤◌, ◌+◌, ℕ, suc, List, [], ◌∷◌, ◌++◌, Bool, true, false, refl, sym, ap, ◌∙◌, length, take, get_or, arith}
use Rattle.std.specs.Prelude.{◌==◌, if◌then◌else◌, All}
use Rattle.std.proofs.lemmas.List.{take_more}
use Rattle.std.proofs.lemmas.List.Elements.{All-nil, All-cons, All-head, All-tail}
use Rattle.life_runs.specs.of_segment_plan.declared.service.Service.{Service}
use Rattle.life_runs.specs.of_segment_plan.Sound.{IsService, IsAddressed}
use Rattle.master_node.specs.Scripts.{script_for}

-- one row, taken or not, stands behind another
behind : (b c : Bool) (x y : Service) (xs ys : List Service) → ys ≡ (if c then xs ++ y ∷ [] else xs) → (if b then x ∷ ys else ys) ≡ (if c then (if b then x ∷ xs else xs) ++ y ∷ [] else (if b then x ∷ xs else xs))
behind true true x y xs ys e = ap (λ z. x ∷ z) e
behind true false x y xs ys e = ap (λ z. x ∷ z) e
behind false true x y xs ys e = e
behind false false x y xs ys e = e

-- of one more service
pub script_more : (slave : ℕ) (rows : List (ℕ × Service)) (row : ℕ × Service) →
    script_for slave (rows ++ row ∷ []) ≡ (if row.0 == slave then script_for slave rows ++ row.1 ∷ [] else script_for slave rows)
script_more slave [] row = refl
script_more slave (r ∷ rows) row = behind (r.0 == slave) (row.0 == slave) r.1 row.1 (script_for slave rows) (script_for slave (rows ++ row ∷ [])) (script_more slave rows row)

-- the rows so far, and the next
pub script_next : (slave : ℕ) (rows : List (ℕ × Service)) (i : ℕ) (row : ℕ × Service) (script new : List Service) → i < length rows → row ≡ get_or rows i row →
    script ≡ script_for slave (take i rows) → new ≡ (if row.0 == slave then script ++ row.1 ∷ [] else script) → new ≡ script_for slave (take (i + 1) rows)
script_next slave rows i row script new l r e n =
    n ∙ ap (λ (z : List Service). if row.0 == slave then z ++ row.1 ∷ [] else z) e
    ∙ sym (script_more slave (take i rows) row)
    ∙ ap (script_for slave) (ap (λ (z : ℕ × Service). take i rows ++ z ∷ []) r ∙ sym (take_more rows i row l))

-- its services are sound
pub script_sound : (slaves slave : ℕ) (rows : List (ℕ × Service)) → All (IsAddressed slaves) rows → All IsService (script_for slave rows)
script_sound slaves slave [] h = All-nil IsService
script_sound slaves slave (row ∷ rows) h =
    elim (row.0 == slave) as (λ b. All IsService (if b then row.1 ∷ script_for slave rows else script_for slave rows)) [
      | true ↦ All-cons IsService row.1 (script_for slave rows) (All-head (IsAddressed slaves) row rows h).service (script_sound slaves slave rows (All-tail (IsAddressed slaves) row rows h))
      | false ↦ script_sound slaves slave rows (All-tail (IsAddressed slaves) row rows h)
    ]

-- it is no longer than all of them
pub script_few : (slave : ℕ) (rows : List (ℕ × Service)) → length (script_for slave rows) ≤ length rows
script_few slave [] = omega arith
script_few slave (row ∷ rows) = go (row.0 == slave) (script_few slave rows)
  where
    go : (b : Bool) → length (script_for slave rows) ≤ length rows → length (if b then row.1 ∷ script_for slave rows else script_for slave rows) ≤ suc (length rows)
    go true l = omega (arith, l)
    go false l = omega (arith, l)
