-- Rows that are found by a key, and the list of their keys.
use Rattle.std.proofs.Common.{◌≡◌, ℕ, zero, suc, ◌+◌, ◌==◌, ◌<◌, Bool, true, false, List, [], ◌∷◌, ◌++◌, length, get_or, set, cond, refl, sym, ap, subst, ◌∙◌, arith, length-append, Option, Some, None}
use Rattle.std.specs.Prelude.{map, nat_eq, position, slice_set, slice_index_or, Result, Ok, Err, IfOk, OnOk, OnErr}
use Rattle.std.specs.List.{list_any, position_from}
use Rattle.indexmap.specs.IndexSet.{insert_key}
use Rattle.std.proofs.lemmas.List.Quantifiers.{position-Some}
use Rattle.std.proofs.lemmas.Iterator.Adapters.{position_from-zero}
use Rattle.std.proofs.Math.Seq.{map-set_same, set-append_seam, get_or-append_seam}
use Rattle.std.proofs.lemmas.List.{map-append}
use Rattle.std.proofs.lemmas.Bool.{eqb-false, ne_eqb}
use Rattle.capture_audit.specs.Audit.{row_of, changed_at}
use Rattle.capture_audit.specs.Judged.{ArePlaces, HasRow}

-- a row without the key is no first place
no_first : (i : ℕ) (rest : Option ℕ) (b : Bool) → cond b (Some i) rest ≡ None → (b ≡ false) × (rest ≡ None)
no_first i rest true none = absurd cc
no_first i rest false none = (refl, none)

none_is : (k i : ℕ) (ks : List ℕ) → position_from (λ s. s == k) i ks ≡ None → list_any (λ s. k == s) ks ≡ false
none_is k i [] none = refl
none_is k i (x ∷ ks) none =
    let parts = no_first i (position_from (λ s. s == k) (i + 1) ks) (x == k) none in
    let own : (k == x) ≡ false = ne_eqb k x (λ is. eqb-false x k parts.0 (sym is)) in
    rw own (none_is k (i + 1) ks parts.1)

-- a key that is new stands behind the others
pub new_key : (k : ℕ) (ks : List ℕ) → position (λ s. s == k) ks ≡ None → insert_key nat_eq ks k ≡ ks ++ k ∷ []
new_key k ks none =
    let absent = none_is k 0 ks (sym (position_from-zero (λ s. s == k) ks) ∙ none) in
    rw absent refl

module _ {A : Type 0} (key : A → ℕ) (fresh : A) (k : ℕ) where
  row_first : (x : A) (xs : List A) (b : Bool) → (key x == k) ≡ b → b ≡ true → row_of key fresh k (x ∷ xs) ≡ x
  row_first x xs b is first = rw (is, first) refl

  row_behind : (x : A) (xs : List A) → (key x == k) ≡ false → row_of key fresh k (x ∷ xs) ≡ row_of key fresh k xs
  row_behind x xs is = rw is refl

  changed_behind : (f : A → A) (x : A) (xs : List A) → (key x == k) ≡ false → changed_at key fresh f k (x ∷ xs) ≡ x ∷ changed_at key fresh f k xs
  changed_behind f x xs is = rw is refl

  changed_first : (f : A → A) (x : A) (xs : List A) → (key x == k) ≡ true → changed_at key fresh f k (x ∷ xs) ≡ f x ∷ xs
  changed_first f x xs is = rw is refl

  -- the row at the first place with the key
  found_row : (xs : List A) (at : ℕ) (d : A) → at < length xs → (key (get_or xs at d) == k) ≡ true → ((i : ℕ) → i < at → (key (get_or xs i d) == k) ≡ false) → get_or xs at d ≡ row_of key fresh k xs
  found_row [] at d in_it is before = absurd (omega arith)
  found_row (x ∷ xs) zero d in_it is before = rw is refl
  found_row (x ∷ xs) (suc at) d in_it is before =
      found_row xs at d (omega (arith, in_it)) is (λ i less. before (suc i) (omega (arith, less))) ∙ sym (row_behind x xs (before 0 (omega arith)))

  found_changed : (f : A → A) (xs : List A) (at : ℕ) (d : A) → at < length xs → (key (get_or xs at d) == k) ≡ true → ((i : ℕ) → i < at → (key (get_or xs i d) == k) ≡ false) → set xs at (f (row_of key fresh k xs)) ≡ changed_at key fresh f k xs
  found_changed f [] at d in_it is before = absurd (omega arith)
  found_changed f (x ∷ xs) zero d in_it is before = rw is refl
  found_changed f (x ∷ xs) (suc at) d in_it is before =
      ap (λ r. x ∷ set xs at (f r)) (row_behind x xs (before 0 (omega arith)))
      ∙ ap (λ ys. x ∷ ys) (found_changed f xs at d (omega (arith, in_it)) is (λ i less. before (suc i) (omega (arith, less))))
      ∙ sym (changed_behind f x xs (before 0 (omega arith)))

  found_same : (xs : List A) (at : ℕ) (d : A) → at < length xs → (key (get_or xs at d) == k) ≡ true → ((i : ℕ) → i < at → (key (get_or xs i d) == k) ≡ false) → xs ≡ changed_at key fresh (λ x. x) k xs
  found_same [] at d in_it is before = absurd (omega arith)
  found_same (x ∷ xs) zero d in_it is before = rw is refl
  found_same (x ∷ xs) (suc at) d in_it is before =
      ap (λ ys. x ∷ ys) (found_same xs at d (omega (arith, in_it)) is (λ i less. before (suc i) (omega (arith, less))))
      ∙ sym (changed_behind (λ x. x) x xs (before 0 (omega arith)))

  -- a key that was found has its row at that place
  pub has_found : (xs : List A) (at : ℕ) → position (λ x. key x == k) xs ≡ Some at → HasRow key fresh k xs xs at
  has_found xs at is =
      let found = position-Some (λ x. key x == k) xs at fresh is in
      record {
        inside = found.0;
        row = λ none. let other = position-Some (λ x. key x == k) xs at none is in found_row xs at none other.0 other.1 other.2;
        same = found_same xs at fresh found.0 found.1 found.2;
        changed = λ f. found_changed f xs at fresh found.0 found.1 found.2;
      }

  -- a key without a row
  absent_row : (i : ℕ) (xs : List A) → position_from (λ x. key x == k) i xs ≡ None → row_of key fresh k xs ≡ fresh
  absent_row i [] none = refl
  absent_row i (x ∷ xs) none =
      let parts = no_first i (position_from (λ x. key x == k) (i + 1) xs) (key x == k) none in
      row_behind x xs parts.0 ∙ absent_row (i + 1) xs parts.1

  absent_changed : (f : A → A) (i : ℕ) (xs : List A) → position_from (λ x. key x == k) i xs ≡ None → xs ++ f fresh ∷ [] ≡ changed_at key fresh f k xs
  absent_changed f i [] none = refl
  absent_changed f i (x ∷ xs) none =
      let parts = no_first i (position_from (λ x. key x == k) (i + 1) xs) (key x == k) none in
      ap (λ ys. x ∷ ys) (absent_changed f (i + 1) xs parts.1) ∙ sym (changed_behind f x xs parts.0)

  -- the row of a key without one
  pub row_absent : (xs : List A) → position (λ x. key x == k) xs ≡ None → row_of key fresh k xs ≡ fresh
  row_absent xs is = absent_row 0 xs (sym (position_from-zero (λ x. key x == k) xs) ∙ is)

  -- a key that has none gets a new row behind the others
  pub has_new : (xs : List A) (at : ℕ) → position (λ x. key x == k) xs ≡ None → at ≡ length xs → HasRow key fresh k xs (xs ++ fresh ∷ []) at
  has_new xs at is last =
      let long = length-append xs (fresh ∷ []) in
      let none = sym (position_from-zero (λ x. key x == k) xs) ∙ is in
      let own = absent_row 0 xs none in
      record {
        inside = omega (arith, long, last);
        row = λ d. ap (λ n. get_or (xs ++ fresh ∷ []) n d) last ∙ get_or-append_seam xs fresh [] d ∙ sym own;
        same = absent_changed (λ x. x) 0 xs none;
        changed = λ f. ap (λ r. set (xs ++ fresh ∷ []) at (f r)) own ∙ ap (λ n. set (xs ++ fresh ∷ []) n (f fresh)) last ∙ set-append_seam xs fresh [] (f fresh) ∙ absent_changed f 0 xs none;
      }

  mapped_from : (i : ℕ) (xs : List A) → position_from (λ s. s == k) i (map key xs) ≡ position_from (λ x. key x == k) i xs
  mapped_from i [] = refl
  mapped_from i (x ∷ xs) = ap (λ rest. cond (key x == k) (Some i) rest) (mapped_from (i + 1) xs)

  -- a key stands among the keys where its row stands among the rows
  pub place_is : (ks : List ℕ) (xs : List A) → ArePlaces key ks xs → position (λ x. key x == k) xs ≡ position (λ s. s == k) ks
  place_is ks xs are =
      position_from-zero (λ x. key x == k) xs ∙ sym (mapped_from 0 xs) ∙ sym (position_from-zero (λ s. s == k) (map key xs)) ∙ ap (position (λ s. s == k)) (sym are)

  -- a key that was found among the keys has its row at that place
  pub row_found : (ks : List ℕ) (xs : List A) (at : ℕ) → ArePlaces key ks xs → position (λ s. s == k) ks ≡ Some at → HasRow key fresh k xs xs at
  row_found ks xs at are is = has_found xs at (place_is ks xs are ∙ is)

  -- the row of a new key, put behind the others
  pub row_made : {E : Type 0} (ks ks' : List ℕ) (xs xs' : List A) (made : Result ℕ E) → ArePlaces key ks xs → position (λ s. s == k) ks ≡ None → IfOk made (λ at. at ≡ length xs)
      → OnOk made ((ks' ≡ ks ++ k ∷ []) × (xs' ≡ xs ++ fresh ∷ [])) → IfOk made (HasRow key fresh k xs xs')
  row_made ks ks' xs xs' (Ok at) are none last more =
      subst (λ rows. HasRow key fresh k xs rows at) (sym more.1) (has_new xs at (place_is ks xs are ∙ none) last)
  row_made ks ks' xs xs' (Err e) are none last more = tt

  -- and its key behind theirs
  pub places_made : {E : Type 0} (ks ks' : List ℕ) (xs xs' : List A) (made : Result ℕ E) → ArePlaces key ks xs → key fresh ≡ k → OnOk made ((ks' ≡ ks ++ k ∷ []) × (xs' ≡ xs ++ fresh ∷ []))
      → OnErr made ((ks' ≡ ks) × (xs' ≡ xs)) → ArePlaces key ks' xs'
  places_made ks ks' xs xs' (Ok at) are own more none =
      more.0 ∙ (λ i. are i ++ sym own i ∷ []) ∙ sym (map-append key xs (fresh ∷ [])) ∙ ap (map key) (sym more.1)
  places_made ks ks' xs xs' (Err e) are own more same = same.0 ∙ are ∙ ap (map key) (sym same.1)

-- rows whose keys stay keep their places
pub places_kept : {A : Type 0} (key : A → ℕ) (ks : List ℕ) (xs : List A) (at : ℕ) (row new : A) → ArePlaces key ks xs → row ≡ slice_index_or xs at row → key new ≡ key row → ArePlaces key ks (slice_set xs at new)
places_kept key ks xs at row new are is same =
    are ∙ sym (map-set_same key xs at new row (same ∙ ap key is))
