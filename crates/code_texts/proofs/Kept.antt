-- What is left of a list of which some items were told.
use Rattle.std.proofs.Common.{◌≡◌, ◌==◌, ℕ, ◌+◌, ◌-◌, ◌<◌, ◌≤◌, nat_lt, nat_le, Bool, true, false, List, [], ◌∷◌, ◌++◌, length, map, cond, get_or, take, drop, Option, Some, None, option_map, option_copied, Bor, refl, sym, ◌∙◌, ap, append_assoc}
use Rattle.std.proofs.lemmas.List.{drop_more, drop_all, append-nil}
use Rattle.std.proofs.lemmas.Bool.{lt-ltb, le-leb}
use Rattle.std.specs.List.{filter, flat_map, list_all, find}
use Rattle.code_texts.specs.Fitting.{is_same, is_padded}
use Rattle.code_texts.specs.Rows.{text_of}
use Rattle.code_texts.specs.Meaning.{has_code, said, said_in}
use Rattle.code_texts.specs.Telling.{or_else}

-- a text so far, behind which the items that pass from a place on are still to be told, gives what the whole list gives behind the old text
pub record Tells {X : Type 0} (p : X → Bool) (f : X → List ℕ) (xs : List X) (i : ℕ) (old new : List ℕ) : Type 0 where
  pub told : new ++ flat_map f (filter p (drop i xs)) ≡ old ++ flat_map f (filter p xs)

-- the items from a place on
here : {X : Type 0} (xs : List X) (i : ℕ) (x : X) → i < length xs → x ≡ get_or xs i x → drop i xs ≡ x ∷ drop (i + 1) xs
here xs i x lt is = rw (← is) at (drop_more xs i x lt)

-- one more item that passes
pub kept : {X : Type 0} (p : X → Bool) (f : X → List ℕ) (xs : List X) (i : ℕ) (x : X) (old middle new : List ℕ) → i < length xs → x ≡ get_or xs i x → p x ≡ true → new ≡ middle ++ f x → Tells p f xs i old middle → Tells p f xs (i + 1) old new
kept p f xs i x old middle new lt is passes put h =
    let at_x : flat_map f (filter p (drop i xs)) ≡ flat_map f (filter p (x ∷ drop (i + 1) xs)) = ap (λ ys. flat_map f (filter p ys)) (here xs i x lt is) in
    let split : flat_map f (filter p (x ∷ drop (i + 1) xs)) ≡ f x ++ flat_map f (filter p (drop (i + 1) xs)) = rw passes refl in
    record { told = rw put (append_assoc middle (f x) (flat_map f (filter p (drop (i + 1) xs))) ∙ ap (λ t. middle ++ t) (sym (at_x ∙ split)) ∙ h.told) }

-- one more item that doesn't
pub left_out : {X : Type 0} (p : X → Bool) (f : X → List ℕ) (xs : List X) (i : ℕ) (x : X) (old new : List ℕ) → i < length xs → x ≡ get_or xs i x → p x ≡ false → Tells p f xs i old new → Tells p f xs (i + 1) old new
left_out p f xs i x old new lt is fails h =
    let at_x : flat_map f (filter p (drop i xs)) ≡ flat_map f (filter p (x ∷ drop (i + 1) xs)) = ap (λ ys. flat_map f (filter p ys)) (here xs i x lt is) in
    let split : flat_map f (filter p (x ∷ drop (i + 1) xs)) ≡ flat_map f (filter p (drop (i + 1) xs)) = rw fails refl in
    record { told = ap (λ t. new ++ t) (sym (at_x ∙ split)) ∙ h.told }

-- nothing is left
pub all_told : {X : Type 0} (p : X → Bool) (f : X → List ℕ) (xs : List X) (i : ℕ) (old new : List ℕ) → length xs ≤ i → Tells p f xs i old new → new ≡ old ++ flat_map f (filter p xs)
all_told p f xs i old new le h =
    let none : flat_map f (filter p (drop i xs)) ≡ [] = ap (λ ys. flat_map f (filter p ys)) (drop_all i xs le) in
    sym (append-nil new) ∙ ap (λ t. new ++ t) (sym none) ∙ h.told

-- items of which none is left
pub entries_told : {X : Type 0} (f : X → List ℕ) (xs : List X) (i : ℕ) (old new : List ℕ) → length xs ≤ i → new ++ flat_map f (drop i xs) ≡ old ++ flat_map f xs → new ≡ old ++ flat_map f xs
entries_told f xs i old new le told =
    let none : flat_map f (drop i xs) ≡ [] = ap (λ ys. flat_map f ys) (drop_all i xs le) in
    sym (append-nil new) ∙ ap (λ t. new ++ t) (sym none) ∙ told

-- a text that isn't empty stays
stays : (one other : List ℕ) → (one ≡ [] → ⊥) → one ≡ or_else one other
stays [] other some = absurd (some refl)
stays (octet ∷ octets) other some = refl

pub first_told : (one other text : List ℕ) → text ≡ [] ++ one → (text ≡ [] → ⊥) → text ≡ or_else one other
first_told one other text is some = is ∙ stays one other (λ none. some (is ∙ none))

-- an empty one is followed by the other
pub second_told : (one other text both : List ℕ) → text ≡ [] ++ one → text ≡ [] → both ≡ text ++ other → both ≡ or_else one other
second_told one other text both is none put =
    let first : one ≡ [] = sym is ∙ none in
    rw first (put ∙ ap (λ t. t ++ other) none)

-- digits behind zeros
pub padded : (code digits : List ℕ) (same : Bool) → 0 < length digits → length digits ≤ length code → list_all (λ digit. digit == 48) (take (length code - length digits) code) ≡ true → same ≡ is_same (drop (length code - length digits) code) digits → same ≡ is_padded code digits
unfolding is_padded
padded code digits same some fits zeros is =
    let low : nat_lt 0 (length digits) ≡ true = lt-ltb 0 (length digits) some in
    let within : nat_le (length digits) (length code) ≡ true = le-leb (length digits) (length code) fits in
    rw (low, within, zeros) is

through_one : {X Y : Type 0} (v : X → Y) (f : Y → List ℕ) (b : Bool) (x : X) (xs : List X) (ys : List Y) → flat_map (λ x. f (v x)) xs ≡ flat_map f ys → flat_map (λ x. f (v x)) (cond b (x ∷ xs) xs) ≡ flat_map f (cond b (v x ∷ ys) ys)
through_one v f true x xs ys same = ap (λ t. f (v x) ++ t) same
through_one v f false x xs ys same = same

-- what is seen of items is told as of the items
pub through : {X Y : Type 0} (v : X → Y) (p : Y → Bool) (f : Y → List ℕ) (xs : List X) → flat_map (λ x. f (v x)) (filter (λ x. p (v x)) xs) ≡ flat_map f (filter p (map v xs))
through v p f [] = refl
through v p f (x ∷ xs) = through_one v f (p (v x)) x (filter (λ x. p (v x)) xs) (filter p (map v xs)) (through v p f xs)

first_or : {X Y : Type 0} (v : X → Y) (b : Bool) (x : X) (one : Option X) (other : Option Y) → other ≡ option_map v one → cond b (Some (v x)) other ≡ option_map v (cond b (Some x) one)
first_or v true x one other same = refl
first_or v false x one other same = same

-- what is found of what is seen of items is seen of the item that is found
pub find_through : {X Y : Type 0} (v : X → Y) (p : Y → Bool) (xs : List X) → find p (map v xs) ≡ option_map v (find (λ x. p (v x)) xs)
find_through v p [] = refl
find_through v p (x ∷ xs) = first_or v (p (v x)) x (find (λ x. p (v x)) xs) (find p (map v xs)) (find_through v p xs)

-- a row that was found says its text
pub said_found : (rows : List (Bor (List ℕ))) (code text : List ℕ) (row : Bor (Bor (List ℕ))) (found : Option (Bor (Bor (List ℕ)))) → option_copied found ≡ find (λ row. has_code code row.now) rows → found ≡ Some row → text ≡ text_of row.now.now → text ≡ said_in code (map (λ row. row.now) rows)
said_found rows code text row found same is says =
    says ∙ ap said (sym (ap (option_map (λ row. row.now)) (sym same ∙ ap option_copied is)) ∙ sym (find_through (λ row. row.now) (has_code code) rows))

-- and where none was found nothing is said
pub said_none : (rows : List (Bor (List ℕ))) (code text : List ℕ) (found : Option (Bor (Bor (List ℕ)))) → option_copied found ≡ find (λ row. has_code code row.now) rows → found ≡ None → text ≡ [] → text ≡ said_in code (map (λ row. row.now) rows)
said_none rows code text found same is says =
    says ∙ ap said (sym (ap (option_map (λ row. row.now)) (sym same ∙ ap option_copied is)) ∙ sym (find_through (λ row. row.now) (has_code code) rows))
