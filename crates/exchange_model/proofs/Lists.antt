-- Beginnings of lists, and where a list that was put together twice was cut.
use Rattle.std.proofs.Common.{◌≡◌, ◌⊎◌, inl, inr, Bool, true, false, cond, List, [], ◌∷◌, ◌++◌, filter, length, drop, map, refl, sym, ap, ◌∙◌, append_assoc, append-nil}
use Rattle.exchange_model.specs.Prefix.{IsPrefixOf}

-- two ways to cut one list: the second cut stands behind the first, or before it
abbrev pub Cut : {X : Type 0} → List X → List X → List X → List X → Type 0
Cut {X} xs cs ys ds = ((m : List X) × (ys ≡ xs ++ m) × (cs ≡ m ++ ds)) ⊎ ((m : List X) × (xs ≡ ys ++ m) × (ds ≡ m ++ cs))

cut_more : {X : Type 0} (x y : X) (xs cs ys ds : List X) → x ≡ y → Cut xs cs ys ds → Cut (x ∷ xs) cs (y ∷ ys) ds
cut_more x y xs cs ys ds e (inl c) = inl (c.0, cc, c.2)
cut_more x y xs cs ys ds e (inr c) = inr (c.0, cc, c.2)

pub cut : {X : Type 0} (xs cs ys ds : List X) → xs ++ cs ≡ ys ++ ds → Cut xs cs ys ds
cut [] cs ys ds e = inl (ys, refl, e)
cut (x ∷ xs) cs [] ds e = inr (x ∷ xs, refl, sym e)
cut (x ∷ xs) cs (y ∷ ys) ds e =
    let head : x ≡ y = cc in
    let tail : xs ++ cs ≡ ys ++ ds = cc in
    cut_more x y xs cs ys ds head (cut xs cs ys ds tail)

pub append_cancel : {X : Type 0} (xs ys zs : List X) → xs ++ ys ≡ xs ++ zs → ys ≡ zs
append_cancel [] ys zs e = e
append_cancel (x ∷ xs) ys zs e = append_cancel xs ys zs (cc)

pub filter-append : {X : Type 0} (p : X → Bool) (xs ys : List X) → filter p (xs ++ ys) ≡ filter p xs ++ filter p ys
filter-append p [] ys = refl
filter-append p (x ∷ xs) ys = put (p x) (filter-append p xs ys)
  where
    put : (b : Bool) → filter p (xs ++ ys) ≡ filter p xs ++ filter p ys →
        cond b (x ∷ filter p (xs ++ ys)) (filter p (xs ++ ys)) ≡ cond b (x ∷ filter p xs) (filter p xs) ++ filter p ys
    put true e = ap (λ zs. x ∷ zs) e
    put false e = e

-- a test of what is made keeps what is made of those that it keeps
pub filter_mapped : {X Y : Type 0} (f : X → Y) (p : Y → Bool) (xs : List X) → filter p (map f xs) ≡ map f (filter (λ x. p (f x)) xs)
filter_mapped f p [] = refl
filter_mapped f p (x ∷ xs) = keep (p (f x)) (filter_mapped f p xs)
  where
    keep : (b : Bool) → filter p (map f xs) ≡ map f (filter (λ z. p (f z)) xs) →
        cond b (f x ∷ filter p (map f xs)) (filter p (map f xs)) ≡ map f (cond b (x ∷ filter (λ z. p (f z)) xs) (filter (λ z. p (f z)) xs))
    keep true e = ap (λ l. f x ∷ l) e
    keep false e = e

pub filter_both : {X : Type 0} (p : X → Bool) (xs ys : List X) → IsPrefixOf xs ys → IsPrefixOf (filter p xs) (filter p ys)
filter_both p xs ys h = (filter p h.0, sym (filter-append p xs h.0) ∙ ap (filter p) h.1)

pub prefix_refl : {X : Type 0} (xs : List X) → IsPrefixOf xs xs
prefix_refl xs = ([], append-nil xs)

pub prefix_trans : {X : Type 0} (xs ys zs : List X) → IsPrefixOf xs ys → IsPrefixOf ys zs → IsPrefixOf xs zs
prefix_trans xs ys zs h k = (h.0 ++ k.0, sym (append_assoc xs h.0 k.0) ∙ ap (λ l. l ++ k.0) h.1 ∙ k.1)

pub prefix_more : {X : Type 0} (xs ys more : List X) → IsPrefixOf xs ys → IsPrefixOf xs (ys ++ more)
prefix_more xs ys more h = (h.0 ++ more, sym (append_assoc xs h.0 more) ∙ ap (λ l. l ++ more) h.1)

pub prefix_behind : {X : Type 0} (front xs ys : List X) → IsPrefixOf xs ys → IsPrefixOf (front ++ xs) (front ++ ys)
prefix_behind front xs ys h = (h.0, append_assoc front xs h.0 ∙ ap (λ l. front ++ l) h.1)

pub prefix_cancel : {X : Type 0} (front xs ys : List X) → IsPrefixOf (front ++ xs) (front ++ ys) → IsPrefixOf xs ys
prefix_cancel front xs ys h = (h.0, append_cancel front (xs ++ h.0) ys (sym (append_assoc front xs h.0) ∙ h.1))

-- two beginnings of one list: one is the beginning of the other
pub two_prefixes : {X : Type 0} (xs ys all : List X) → IsPrefixOf xs all → IsPrefixOf ys all → IsPrefixOf xs ys ⊎ IsPrefixOf ys xs
two_prefixes xs ys all h k = elim (cut xs h.0 ys k.0 (h.1 ∙ sym k.1)) [ inl c ↦ inl (c.0, sym c.1) | inr c ↦ inr (c.0, sym c.1) ]

pub append_none : {X : Type 0} (xs ys : List X) → xs ++ ys ≡ [] → (xs ≡ []) × (ys ≡ [])
append_none [] ys e = (refl, e)
append_none (x ∷ xs) ys e = absurd (cc)

pub drop_behind : {X : Type 0} (xs ys : List X) → drop (length xs) (xs ++ ys) ≡ ys
drop_behind [] ys = refl
drop_behind (x ∷ xs) ys = drop_behind xs ys

pub drop_past : {X : Type 0} (xs ys : List X) → drop (length (xs ++ ys)) xs ≡ []
drop_past [] [] = refl
drop_past [] (y ∷ ys) = refl
drop_past (x ∷ xs) ys = drop_past xs ys

-- of two beginnings of one list the longer has the shorter and, where something is left of it, its next item
pub next_of_prefix : {X : Type 0} (xs ys all : List X) (y : X) (more : List X) → IsPrefixOf xs all → IsPrefixOf ys all → drop (length xs) ys ≡ y ∷ more → IsPrefixOf (xs ++ y ∷ []) all
next_of_prefix xs ys all y more h k e = elim (two_prefixes xs ys all h k) [
  | inl c ↦
      let rest : c.0 ≡ y ∷ more = sym (drop_behind xs c.0) ∙ ap (drop (length xs)) c.1 ∙ e in
      prefix_trans (xs ++ y ∷ []) ys all (more, append_assoc xs (y ∷ []) more ∙ ap (λ l. xs ++ l) (sym rest) ∙ c.1) k
  | inr c ↦ absurd (let none : drop (length xs) ys ≡ [] = ap (λ l. drop (length l) ys) (sym c.1) ∙ drop_past ys c.0 in cc)
]

pub none_left : {X : Type 0} (xs all : List X) → IsPrefixOf xs all → drop (length xs) all ≡ [] → xs ≡ all
none_left xs all h e =
    let nothing : h.0 ≡ [] = sym (drop_behind xs h.0) ∙ ap (drop (length xs)) h.1 ∙ e in
    sym (append-nil xs) ∙ ap (λ l. xs ++ l) (sym nothing) ∙ h.1

pub prefix_nil : {X : Type 0} (xs : List X) → IsPrefixOf xs [] → xs ≡ []
prefix_nil xs h = (append_none xs h.0 h.1).0

pub both_ways : {X : Type 0} (xs ys : List X) → IsPrefixOf xs ys → IsPrefixOf ys xs → xs ≡ ys
both_ways xs ys h k =
    let e : xs ++ (h.0 ++ k.0) ≡ xs ++ [] = sym (append_assoc xs h.0 k.0) ∙ ap (λ l. l ++ k.0) h.1 ∙ k.1 ∙ sym (append-nil xs) in
    sym (append-nil xs) ∙ ap (λ l. xs ++ l) (sym (append_none h.0 k.0 (append_cancel xs _ _ e)).0) ∙ h.1
