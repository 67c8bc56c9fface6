-- Choices of two, and a number that grows by one where it is told to.
use Rattle.std.proofs.Common.{◌≡◌, ◌⊎◌, inl, inr, ℕ, suc, Bool, true, false}
use Rattle.std.specs.Prelude.{if◌then◌else◌}

-- what holds of both holds of the one that is chosen
pub either : {X : Type 0} (P : X → Type 0) (b : Bool) (x y : X) → P x → P y → P (if b then x else y)
either P true x y p q = p
either P false x y p q = q

-- by a number that grows where it is told to: what is counted or the same is counted once, or not counted and the same
pub counted : {S : Type 0} (more : Bool → ℕ → ℕ) → ((n : ℕ) → more true n ≡ suc n) → ((n : ℕ) → more false n ≡ n) → (counts : Bool) (n : ℕ) (a b : S) → (counts ≡ true) ⊎ (a ≡ b) → (more counts n ≡ suc n) ⊎ ((more counts n ≡ n) × (a ≡ b))
counted more one none true n a b may = inl (one n)
counted more one none false n a b (inl differs) = absurd (cc)
counted more one none false n a b (inr same) = inr (none n, same)
