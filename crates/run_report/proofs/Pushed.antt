-- Lines behind lines.
use Rattle.std.proofs.Common.{◌≡◌, ℕ, List, [], ◌∷◌, ◌++◌, ap, sym, ◌∙◌, append_assoc}
use Rattle.run_report.specs.Report.{Extends}

-- the lines so far with those that are left are all of them, and no line before the call is gone
pub record HasPushed (old now left whole : List (List ℕ)) : Type 0 where
  pub rest : now ++ left ≡ old ++ whole
  pub more : Extends old now

-- one line more
pub pushed_more : (old now new left whole : List (List ℕ)) (line : List ℕ) {all : List (List ℕ)} → all ≡ line ∷ left → new ≡ now ++ line ∷ [] → HasPushed old now all whole → HasPushed old new left whole
pushed_more old now new left whole line split is h = record {
  rest = rw is (append_assoc now (line ∷ []) left ∙ ap (λ r. now ++ r) (sym split) ∙ h.rest);
  more = (h.more.0 ++ line ∷ [], rw (is, h.more.1) (append_assoc old h.more.0 (line ∷ [])));
}
