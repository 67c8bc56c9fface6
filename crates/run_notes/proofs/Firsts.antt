-- What stands at the slaves before anything happened.
use Rattle.std.proofs.Common.{◌≡◌, ℕ, zero, suc, ◌+◌, ◌<◌, List, [], ◌∷◌, length, drop, refl, ap, sym, ◌∙◌, arith}
use Rattle.run_book.specs.of_segment_plan.declared.slave.SlaveSpec.{SlaveSpec}
use Rattle.run_book.specs.of_segment_plan.declared.service.Service.{Service}
use Rattle.run_notes.specs.Notes.{new_notes}
use Rattle.run_notes.specs.Slaves.{scripted, first_notes}

pub first_at : (services : List (ℕ × Service)) (number : ℕ) (specs : List SlaveSpec) (at more : ℕ) → more ≡ suc at → at < length specs →
    first_notes services number (drop at specs) ≡ new_notes (scripted services number) ∷ first_notes services (number + 1) (drop more specs)
first_at services number specs at more is inside = one specs at inside ∙ ap (λ k. new_notes (scripted services number) ∷ first_notes services (number + 1) (drop k specs)) (sym is)
  where
    one : (specs : List SlaveSpec) (at : ℕ) → at < length specs → first_notes services number (drop at specs) ≡ new_notes (scripted services number) ∷ first_notes services (number + 1) (drop (suc at) specs)
    one [] at inside = absurd (omega (arith, inside))
    one (spec ∷ specs) zero inside = refl
    one (spec ∷ specs) (suc at) inside = one specs at (omega (arith, inside))

pub length_first : (services : List (ℕ × Service)) (number : ℕ) (specs : List SlaveSpec) → length (first_notes services number specs) ≡ length specs
length_first services number [] = refl
length_first services number (spec ∷ specs) = ap suc (length_first services (number + 1) specs)
