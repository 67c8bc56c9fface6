-- A question that is put behind a line.
use Rattle.std.proofs.Common.{◌≡◌, ℕ, List, ◌++◌, Option, Some, None, option_copied, Bor, sym, ap, ◌∙◌, append_assoc}
use Rattle.std.proofs.lemmas.List.{append-nil}
use Rattle.near_words.specs.Hint.{question, hint}

-- three pieces put one behind the other
pub three : (old a word b d one two new : List ℕ) → one ≡ old ++ a → two ≡ one ++ word → word ≡ b → new ≡ two ++ d → new ≡ old ++ (a ++ (b ++ d))
three old a word b d one two new first second same third =
    third ∙ ap (λ t. t ++ d) (second ∙ ap (λ t. one ++ t) same ∙ ap (λ t. t ++ b) first) ∙ append_assoc (old ++ a) b d ∙ append_assoc old a (b ++ d)

-- a word that was meant is asked for
pub hinted : (found : Option (Bor (List ℕ))) (meant : Bor (List ℕ)) (old new : List ℕ) → found ≡ Some meant → new ≡ old ++ question meant.now → new ≡ old ++ hint (option_copied found)
hinted found meant old new is put = put ∙ ap (λ o. old ++ hint (option_copied o)) (sym is)

-- and none isn't
pub unhinted : (found : Option (Bor (List ℕ))) (old : List ℕ) → found ≡ None → old ≡ old ++ hint (option_copied found)
unhinted found old is = sym (append-nil old) ∙ ap (λ o. old ++ hint (option_copied o)) (sym is)
