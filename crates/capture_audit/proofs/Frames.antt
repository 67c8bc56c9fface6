-- Frames and their returns.
use Rattle.std.proofs.Common.{◌≡◌, ℕ, zero, suc, ◌==◌, Bool, true, false, ◌&&◌, List, [], ◌∷◌, length, replicate, refl, sym, ap, ◌∙◌, subst, arith}
use Rattle.std.specs.Prelude.{All, IsTrue, ◌↔◌}
use Rattle.std.specs.Str.{bytes_eq}
use Rattle.std.proofs.lemmas.Slice.Eq.{bytes_eq-Decides}
use Rattle.capture_view.specs.of_datagrams.declared.frame.Part.{Part}
use Rattle.capture_audit.specs.Exchanges.{same_lengths}

lengths_behind : (b : Bool) (xs ys : List Part) → false ≡ same_lengths xs ys → false ≡ (b && same_lengths xs ys)
lengths_behind true xs ys is = is
lengths_behind false xs ys is = refl

-- as many datagrams are needed
pub lengths_differ : (xs ys : List Part) → (length xs ≡ length ys → ⊥) → false ≡ same_lengths xs ys
lengths_differ [] [] differ = absurd (differ refl)
lengths_differ [] (y ∷ ys) differ = refl
lengths_differ (x ∷ xs) [] differ = refl
lengths_differ (x ∷ xs) (y ∷ ys) differ = lengths_behind (x.head.len == y.head.len) xs ys (lengths_differ xs ys (λ same. differ (ap suc same)))

-- blank octets
zeros_of : (xs : List ℕ) → All (λ x. x ≡ 0) xs → xs ≡ replicate (length xs) 0
zeros_of [] all = refl
zeros_of (x ∷ xs) all =
    let first : x ≡ 0 = all 0 0 (omega arith) in
    let more = zeros_of xs (λ k none few. all (suc k) none (omega (arith, few))) in
    (λ i. first i ∷ more i)

all_zeros : (n : ℕ) → All (λ (x : ℕ). x ≡ 0) (replicate n 0)
all_zeros zero k none few = absurd (omega arith)
all_zeros (suc n) zero none few = refl
all_zeros (suc n) (suc k) none few = all_zeros n k none (omega (arith, few))

blank_by : (b r : Bool) (xs : List ℕ) (n : ℕ) → length xs ≡ n → (IsTrue b ↔ All (λ (x : ℕ). x ≡ 0) xs) → bytes_eq xs (replicate n 0) ≡ r → b ≡ r
blank_by true true xs n long iff is = refl
blank_by false false xs n long iff is = refl
blank_by true false xs n long iff is =
    let same : xs ≡ replicate n 0 = zeros_of xs (iff.0 refl) ∙ ap (λ k. replicate k 0) long in
    let equal = (bytes_eq-Decides xs (replicate n 0)).1 same in
    absurd cc
blank_by false true xs n long iff is =
    let same : xs ≡ replicate n 0 = (bytes_eq-Decides xs (replicate n 0)).0 is in
    let zero = iff.1 (subst (λ ys. All (λ (x : ℕ). x ≡ 0) ys) (sym same) (all_zeros n)) in
    absurd cc

-- octets are blank where all of them are zero
pub blank_is : (b : Bool) (xs : List ℕ) (n : ℕ) → length xs ≡ n → (IsTrue b ↔ All (λ (x : ℕ). x ≡ 0) xs) → b ≡ bytes_eq xs (replicate n 0)
blank_is b xs n long iff = blank_by b (bytes_eq xs (replicate n 0)) xs n long iff refl
