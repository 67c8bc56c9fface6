-- Parts of a line put one behind the other.
use Rattle.std.proofs.Common.{◌≡◌, ℕ, List, ◌++◌, ap, ◌∙◌, append_assoc}

pub three_parts : (old a b d one two new : List ℕ) → one ≡ old ++ a → two ≡ one ++ b → new ≡ two ++ d → new ≡ old ++ (a ++ (b ++ d))
three_parts old a b d one two new first second third = third ∙ ap (λ t. t ++ d) (second ∙ ap (λ t. t ++ b) first) ∙ append_assoc (old ++ a) b d ∙ append_assoc old a (b ++ d)

-- behind a head
pub four_parts : (base head a b d e one two mid new : List ℕ) → base ≡ head → one ≡ base ++ a → two ≡ one ++ b → mid ≡ two ++ d → new ≡ mid ++ e → new ≡ head ++ (a ++ (b ++ (d ++ e)))
four_parts base head a b d e one two mid new is first second third last =
    last ∙ ap (λ t. t ++ e) (three_parts base a b d one two mid first second third) ∙ append_assoc base (a ++ (b ++ d)) e
    ∙ ap (λ t. base ++ t) (append_assoc a (b ++ d) e ∙ ap (λ t. a ++ t) (append_assoc b d e)) ∙ ap (λ t. t ++ (a ++ (b ++ (d ++ e)))) is
