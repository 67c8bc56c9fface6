-- Five pieces put one behind the other.
use Rattle.std.proofs.Common.{◌≡◌, ℕ, List, ◌++◌, ap, ◌∙◌, append_assoc}

four : (old a b d e class one two three new : List ℕ) → class ≡ b → one ≡ old ++ a → two ≡ one ++ class → three ≡ two ++ d → new ≡ three ++ e → new ≡ old ++ (a ++ (b ++ (d ++ e)))
four old a b d e class one two three new is_b first second third fourth =
    let middle : two ≡ old ++ (a ++ b) = second ∙ ap (λ t. t ++ class) first ∙ ap (λ t. (old ++ a) ++ t) is_b ∙ append_assoc old a b in
    let last : three ≡ old ++ (a ++ (b ++ d)) = third ∙ ap (λ t. t ++ d) middle ∙ append_assoc old (a ++ b) d ∙ ap (λ t. old ++ t) (append_assoc a b d) in
    fourth ∙ ap (λ t. t ++ e) last ∙ append_assoc old (a ++ (b ++ d)) e ∙ ap (λ t. old ++ t) (append_assoc a (b ++ d) e ∙ ap (λ t. a ++ t) (append_assoc b d e))

pub five : (old a b d e f class one two three more new : List ℕ) → class ≡ b → one ≡ old ++ a → two ≡ one ++ class → three ≡ two ++ d → more ≡ three ++ e → new ≡ more ++ f → new ≡ old ++ (a ++ (b ++ (d ++ (e ++ f))))
five old a b d e f class one two three more new is_b first second third fourth last =
    let begun : more ≡ old ++ (a ++ (b ++ (d ++ e))) = four old a b d e class one two three more is_b first second third fourth in
    last ∙ ap (λ t. t ++ f) begun ∙ append_assoc old (a ++ (b ++ (d ++ e))) f
    ∙ ap (λ t. old ++ t) (append_assoc a (b ++ (d ++ e)) f ∙ ap (λ t. a ++ t) (append_assoc b (d ++ e) f ∙ ap (λ t. b ++ t) (append_assoc d e f)))
