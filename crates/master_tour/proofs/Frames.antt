-- A frame that came back, as it reads.
use Rattle.std.proofs.Common.{◌≡◌, ◌≤◌, [], ◌∷◌, subst, arith, length}
use Rattle.master_side.specs.of_segment_model.Returned.{Returns}
use Rattle.master_tour.specs.Under.{Grams}

pub none_returns : (sent back : Grams) → 1 ≤ length sent → Returns sent back → back ≡ [] → ⊥
none_returns [] back l a e = absurd (omega (arith, l))
none_returns (s ∷ ss) back l a e = subst (λ z. Returns (s ∷ ss) z) e a
