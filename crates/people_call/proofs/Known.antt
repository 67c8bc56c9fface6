-- Whether a text that was found has something.
use Rattle.std.proofs.Common.{◌≡◌, ℕ, ◌≤◌, true, false, List, [], ◌∷◌, ◌++◌, length, map, drop, refl, sym, ap, ◌∙◌, append_assoc}
use Rattle.std.proofs.lemmas.List.{append-nil, drop_all}
use Rattle.form_help.specs.declared.telling.Told.{Told}
use Rattle.people_call.specs.Explain.{known_or}

some_known : (found line : List ℕ) → (found ≡ [] → ⊥) → ◌≡◌ {A = Told} (record { is_known = true; text = found }) (known_or found line)
some_known [] line some = absurd (some refl)
some_known (octet ∷ octets) line some = refl

-- it has
pub is_known : (text found line : List ℕ) → text ≡ found → (text ≡ [] → ⊥) → ◌≡◌ {A = Told} (record { is_known = true; text = text }) (known_or found line)
is_known text found line is some = rw is (some_known found line (λ none. some (rw is none)))

-- it hasn't
pub is_unknown : (text found line other : List ℕ) → text ≡ found → text ≡ [] → other ≡ text ++ line → ◌≡◌ {A = Told} (record { is_known = false; text = other }) (known_or found line)
is_unknown text found line other is none put =
    let empty : found ≡ [] = rw is at none in
    let same : other ≡ line = put ∙ ap (λ t. t ++ line) none in
    rw (empty, same) refl

-- three pieces put one behind the other
pub three : (old a word b d one two new : List ℕ) → one ≡ old ++ a → two ≡ one ++ word → word ≡ b → new ≡ two ++ d → new ≡ old ++ (a ++ (b ++ d))
three old a word b d one two new first second same third =
    third ∙ ap (λ t. t ++ d) (second ∙ ap (λ t. one ++ t) same ∙ ap (λ t. t ++ b) first) ∙ append_assoc (old ++ a) b d ∙ append_assoc old a (b ++ d)

-- five pieces
pub five : (old a word b d e f one two mid last new : List ℕ) → one ≡ old ++ a → two ≡ one ++ word → word ≡ b → mid ≡ two ++ d → last ≡ mid ++ e → new ≡ last ++ f → new ≡ old ++ (a ++ (b ++ (d ++ (e ++ f))))
five old a word b d e f one two mid last new first second same third fourth fifth =
    fifth ∙ ap (λ t. t ++ f) (fourth ∙ ap (λ t. t ++ e) (three old a word b d one two mid first second same third))
    ∙ append_assoc (old ++ (a ++ (b ++ d))) e f ∙ append_assoc old (a ++ (b ++ d)) (e ++ f)
    ∙ ap (λ t. old ++ t) (append_assoc a (b ++ d) (e ++ f) ∙ ap (λ t. a ++ t) (append_assoc b d (e ++ f)))

-- what is seen of families of which none is left
pub all_seen : {X Y : Type 0} (f : X → Y) (xs : List X) (i : ℕ) (so : List Y) → length xs ≤ i → so ++ map f (drop i xs) ≡ map f xs → so ≡ map f xs
all_seen f xs i so le is =
    let none : map f (drop i xs) ≡ [] = ap (map f) (drop_all i xs le) in
    sym (append-nil so) ∙ ap (λ t. so ++ t) (sym none) ∙ is
