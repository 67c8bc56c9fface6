-- Lists to which one element more is appended.
use Rattle.std.proofs.Common.{◌≡◌, List, [], ◌∷◌, ◌++◌, ap, sym, ◌∙◌, append_assoc}

-- those so far with those that are left are all
pub one_more : {X : Type 0} (now new left whole : List X) (x : X) {all : List X} → all ≡ x ∷ left → new ≡ now ++ x ∷ [] → now ++ all ≡ whole → new ++ left ≡ whole
one_more now new left whole x split is h = ap (λ l. l ++ left) is ∙ append_assoc now (x ∷ []) left ∙ ap (λ r. now ++ r) (sym split) ∙ h
