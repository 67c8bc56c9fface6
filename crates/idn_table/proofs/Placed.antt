-- An IDN that is placed among others keeps their keys rising.
use Rattle.std.proofs.Common.{◌≡◌, ◌⊎◌, inl, inr, ℕ, suc, zero, ◌+◌, ◌<◌, ◌≤◌, Bool, true, false, cond, ◌&&◌, ◌||◌, not, nat_eq, nat_lt, List, [], ◌∷◌, ◌++◌, length, drop, insert, remove, Option, None, Some, is_some, slice_get, refl, sym, ap, ◌∙◌, arith, ltb-true, ltb-false, lt-ltb, eqb-true, eq-eqb, false-eqb, add-one, if◌then◌else◌}
use Rattle.std.specs.List.{list_all, position_or_len}
use Rattle.std.specs.Map.{lookup, keys_of}
use Rattle.indexmap.specs.IndexMap.{insert_entry, move_index}
use Rattle.idn_table.specs.Idns.{Kept, Key, Table, is_key, is_idn, is_below, is_rising, is_row, are_idns, placed}

-- both of two tests
pub both : (a b : Bool) → a ≡ true → b ≡ true → (a && b) ≡ true
both true true x y = refl
both true false x y = y
both false b x y = x

pub both_are : (a b : Bool) → (a && b) ≡ true → (a ≡ true) × (b ≡ true)
both_are true b e = (refl, e)
both_are false b e = absurd (cc)

-- ---- keys

below_is : (a b : Key) → is_below a b ≡ true → (a.0 < b.0) ⊎ ((a.0 ≡ b.0) × (a.1 < b.1))
below_is a b e = by (nat_lt a.0 b.0) (nat_eq a.0 b.0) (nat_lt a.1 b.1) refl refl refl e
  where
    by : (x y z : Bool) → nat_lt a.0 b.0 ≡ x → nat_eq a.0 b.0 ≡ y → nat_lt a.1 b.1 ≡ z → (x || y && z) ≡ true → (a.0 < b.0) ⊎ ((a.0 ≡ b.0) × (a.1 < b.1))
    by true y z p q r e = inl (ltb-true a.0 b.0 p)
    by false true true p q r e = inr (eqb-true a.0 b.0 q, ltb-true a.1 b.1 r)
    by false true false p q r e = absurd (cc)
    by false false z p q r e = absurd (cc)

below_by : (a b : Key) → (a.0 < b.0) ⊎ ((a.0 ≡ b.0) × (a.1 < b.1)) → is_below a b ≡ true
below_by a b (inl less) = rw (lt-ltb a.0 b.0 less) refl
below_by a b (inr (same, less)) = by (nat_lt a.0 b.0) (nat_eq a.0 b.0) (nat_lt a.1 b.1) (eq-eqb a.0 b.0 same) (lt-ltb a.1 b.1 less)
  where
    by : (x y z : Bool) → y ≡ true → z ≡ true → (x || y && z) ≡ true
    by true y z p q = refl
    by false y z p q = both y z p q

below_next : (a b c : Key) → is_below a b ≡ true → is_below b c ≡ true → is_below a c ≡ true
below_next a b c first next = by (below_is a b first) (below_is b c next)
  where
    by : (a.0 < b.0) ⊎ ((a.0 ≡ b.0) × (a.1 < b.1)) → (b.0 < c.0) ⊎ ((b.0 ≡ c.0) × (b.1 < c.1)) → is_below a c ≡ true
    by (inl p) (inl q) = below_by a c (inl (omega (arith, p, q)))
    by (inl p) (inr q) = below_by a c (inl (omega (arith, p, q.0)))
    by (inr p) (inl q) = below_by a c (inl (omega (arith, p.0, q)))
    by (inr p) (inr q) = below_by a c (inr (p.0 ∙ q.0, omega (arith, p.1, q.1)))

-- of two keys one is below the other
below_other : (a b : Key) → is_below a b ≡ false → is_key a b ≡ false → is_below b a ≡ true
below_other a b e f = by (nat_lt a.0 b.0) (nat_eq a.0 b.0) (nat_lt a.1 b.1) (nat_eq a.1 b.1) refl refl refl refl e f
  where
    by : (x y z w : Bool) → nat_lt a.0 b.0 ≡ x → nat_eq a.0 b.0 ≡ y → nat_lt a.1 b.1 ≡ z → nat_eq a.1 b.1 ≡ w → (x || y && z) ≡ false → (y && w) ≡ false → is_below b a ≡ true
    by true y z w p q r s e f = absurd (cc)
    by false true true w p q r s e f = absurd (cc)
    by false true false true p q r s e f = absurd (cc)
    by false true false false p q r s e f =
        let least = ltb-false a.1 b.1 r in
        let differs = false-eqb a.1 b.1 (sym s) in
        below_by b a (inr (sym (eqb-true a.0 b.0 q), omega (arith, least, differs)))
    by false false z w p q r s e f =
        let least = ltb-false a.0 b.0 p in
        let differs = false-eqb a.0 b.0 (sym q) in
        below_by b a (inl (omega (arith, least, differs)))

-- ---- the place

pub place_within : (key : Key) (idns : Table) → position_or_len (is_below key) (keys_of idns) ≤ length idns
place_within key [] = omega arith
place_within key (row ∷ rows) = by (is_below key row.0) (place_within key rows)
  where
    by : (b : Bool) → position_or_len (is_below key) (keys_of rows) ≤ length rows → cond (not b) (1 + position_or_len (is_below key) (keys_of rows)) 0 ≤ suc (length rows)
    by true h = omega arith
    by false h = omega arith

insert_next : (x y : Key × Kept) (xs : Table) (n : ℕ) → insert (y ∷ xs) (1 + n) x ≡ y ∷ insert xs n x
insert_next x y xs n = ap (λ k. insert (y ∷ xs) k x) (let e : 1 + n ≡ suc n = omega arith in e)

insert_placed : (key : Key) (i : Kept) (idns : Table) → insert idns (position_or_len (is_below key) (keys_of idns)) (key, i) ≡ placed key i idns
insert_placed key i [] = refl
insert_placed key i (row ∷ rows) = by (is_below key row.0) (insert_placed key i rows)
  where
    by : (b : Bool) → insert rows (position_or_len (is_below key) (keys_of rows)) (key, i) ≡ placed key i rows →
        insert (row ∷ rows) (cond (not b) (1 + position_or_len (is_below key) (keys_of rows)) 0) (key, i) ≡ (if b then (key, i) ∷ row ∷ rows else row ∷ placed key i rows)
    by true h = refl
    by false h = insert_next (key, i) row rows (position_or_len (is_below key) (keys_of rows)) ∙ ap (λ l. row ∷ l) h

drop_next : (rows : Table) (at : ℕ) (row : Key × Kept) → slice_get rows at ≡ Some row → drop at rows ≡ row ∷ drop (suc at) rows
drop_next [] at row got = absurd (cc)
drop_next (x ∷ xs) zero row got = let e : x ≡ row = cc in ap (λ y. y ∷ xs) e
drop_next (x ∷ xs) (suc at) row got = drop_next xs at row got

drop_at : (rows : Table) (at : ℕ) (row : Key × Kept) → slice_get rows at ≡ Some row → drop at rows ≡ row ∷ drop (at + 1) rows
drop_at rows at row got = rw add-one (drop_next rows at row got)

-- something stands at each place within
pub stands : (rows : Table) (at : ℕ) → at < length rows → slice_get rows at ≡ None → ⊥
stands [] at within none = omega arith
stands (x ∷ xs) zero within none = cc
stands (x ∷ xs) (suc at) within none = stands xs at (omega arith) none

-- the row at a place is above a key, or it is not
pub place_hit : (key other : Key) (at : ℕ) (i : Kept) (idns : Table) → slice_get idns at ≡ Some (other, i) → is_below key other ≡ true → position_or_len (is_below key) (keys_of (drop at idns)) ≡ 0
place_hit key other at i idns got below = rw (drop_at idns at (other, i) got, below) refl

pub place_miss : (key other : Key) (at : ℕ) (i : Kept) (idns : Table) → slice_get idns at ≡ Some (other, i) → is_below key other ≡ false →
    position_or_len (is_below key) (keys_of (drop at idns)) ≡ 1 + position_or_len (is_below key) (keys_of (drop (at + 1) idns))
place_miss key other at i idns got above = rw (drop_at idns at (other, i) got, above) refl

-- ---- what the map does

pub not_there : (found : Option Kept) → found ≡ None → is_some found ≡ true → ⊥
not_there None none there = cc
not_there (Some i) none there = cc

absent_first : (key : Key) (row : Key × Kept) (rows : Table) → lookup (is_key key) (row ∷ rows) ≡ None → (is_key key row.0 ≡ false) × (lookup (is_key key) rows ≡ None)
absent_first key row rows none = by (is_key key row.0) refl none
  where
    by : (b : Bool) → is_key key row.0 ≡ b → cond b (Some row.1) (lookup (is_key key) rows) ≡ None → (is_key key row.0 ≡ false) × (lookup (is_key key) rows ≡ None)
    by true e none = absurd (cc)
    by false e none = (e, none)

entry_last : (key : Key) (i : Kept) (idns : Table) → lookup (is_key key) idns ≡ None → insert_entry is_key idns key i ≡ idns ++ (key, i) ∷ []
entry_last key i [] none = refl
entry_last key i (row ∷ rows) none =
    let a = absent_first key row rows none in
    rw a.0 (ap (λ l. row ∷ l) (entry_last key i rows a.1))

index_last : (key : Key) (idns : Table) → lookup (is_key key) idns ≡ None → position_or_len (is_key key) (keys_of idns) ≡ length idns
index_last key [] none = refl
index_last key (row ∷ rows) none =
    let a = absent_first key row rows none in
    let rest : position_or_len (is_key key) (keys_of rows) ≡ length rows = index_last key rows a.1 in
    rw a.0 (omega (arith, rest))

get_last : (idns : Table) (row : Key × Kept) → slice_get (idns ++ row ∷ []) (length idns) ≡ Some row
get_last [] row = refl
get_last (x ∷ xs) row = get_last xs row

remove_last : (idns : Table) (row : Key × Kept) → remove (idns ++ row ∷ []) (length idns) ≡ idns
remove_last [] row = refl
remove_last (x ∷ xs) row = ap (λ l. x ∷ l) (remove_last xs row)

-- a new pair that is moved to a place stands there
moved : (key : Key) (i : Kept) (idns : Table) (place : ℕ) → lookup (is_key key) idns ≡ None →
    move_index (insert_entry is_key idns key i) (position_or_len (is_key key) (keys_of idns)) place ≡ insert idns place (key, i)
moved key i idns place none =
    rw (entry_last key i idns none, index_last key idns none, get_last idns (key, i), remove_last idns (key, i)) refl

-- what an insertion of an IDN leaves
pub inserted : (key : Key) (i kept : Kept) (idns : Table) (place : ℕ) → lookup (is_key key) idns ≡ None → place ≡ position_or_len (is_below key) (keys_of idns) → kept ≡ i →
    move_index (insert_entry is_key idns key kept) (position_or_len (is_key key) (keys_of idns)) place ≡ placed key i idns
inserted key i kept idns place none is same =
    moved key kept idns place none ∙ ap (λ n. insert idns n (key, kept)) is ∙ insert_placed key kept idns ∙ ap (λ k. placed key k idns) same

-- ---- rising keys

above_placed : (k key : Key) (i : Kept) (idns : Table) → list_all (is_below k) (keys_of idns) ≡ true → is_below k key ≡ true → list_all (is_below k) (keys_of (placed key i idns)) ≡ true
above_placed k key i [] all here = both (is_below k key) true here refl
above_placed k key i (row ∷ rows) all here =
    let p = both_are (is_below k row.0) (list_all (is_below k) (keys_of rows)) all in
    by (is_below key row.0) p (above_placed k key i rows p.1 here)
  where
    by : (b : Bool) → (is_below k row.0 ≡ true) × (list_all (is_below k) (keys_of rows) ≡ true) → list_all (is_below k) (keys_of (placed key i rows)) ≡ true →
        list_all (is_below k) (keys_of (if b then (key, i) ∷ row ∷ rows else row ∷ placed key i rows)) ≡ true
    by true p rest = both (is_below k key) (is_below k row.0 && list_all (is_below k) (keys_of rows)) here (both (is_below k row.0) (list_all (is_below k) (keys_of rows)) p.0 p.1)
    by false p rest = both (is_below k row.0) (list_all (is_below k) (keys_of (placed key i rows))) p.0 rest

above_more : (a b : Key) (keys : List Key) → is_below a b ≡ true → list_all (is_below b) keys ≡ true → list_all (is_below a) keys ≡ true
above_more a b [] less all = refl
above_more a b (k ∷ ks) less all =
    let p = both_are (is_below b k) (list_all (is_below b) ks) all in
    both (is_below a k) (list_all (is_below a) ks) (below_next a b k less p.0) (above_more a b ks less p.1)

rising_placed : (key : Key) (i : Kept) (idns : Table) → is_rising (keys_of idns) ≡ true → lookup (is_key key) idns ≡ None → is_rising (keys_of (placed key i idns)) ≡ true
rising_placed key i [] rising none = refl
rising_placed key i (row ∷ rows) rising none =
    let p = both_are (list_all (is_below row.0) (keys_of rows)) (is_rising (keys_of rows)) rising in
    let a = absent_first key row rows none in
    by (is_below key row.0) refl p a.0 (rising_placed key i rows p.1 a.1)
  where
    by : (b : Bool) → is_below key row.0 ≡ b → (list_all (is_below row.0) (keys_of rows) ≡ true) × (is_rising (keys_of rows) ≡ true) → is_key key row.0 ≡ false →
        is_rising (keys_of (placed key i rows)) ≡ true → is_rising (keys_of (if b then (key, i) ∷ row ∷ rows else row ∷ placed key i rows)) ≡ true
    by true e p other rest =
        both (is_below key row.0 && list_all (is_below key) (keys_of rows)) (list_all (is_below row.0) (keys_of rows) && is_rising (keys_of rows))
        (both (is_below key row.0) (list_all (is_below key) (keys_of rows)) e (above_more key row.0 (keys_of rows) e p.0))
        (both (list_all (is_below row.0) (keys_of rows)) (is_rising (keys_of rows)) p.0 p.1)
    by false e p other rest =
        both (list_all (is_below row.0) (keys_of (placed key i rows))) (is_rising (keys_of (placed key i rows)))
        (above_placed row.0 key i rows p.0 (below_other key row.0 e other)) rest

rows_placed : (key : Key) (i : Kept) (idns : Table) → list_all is_row idns ≡ true → is_idn i ≡ true → list_all is_row (placed key i idns) ≡ true
rows_placed key i [] all here = both (is_idn i) true here refl
rows_placed key i (row ∷ rows) all here =
    let p = both_are (is_row row) (list_all is_row rows) all in
    by (is_below key row.0) p (rows_placed key i rows p.1 here)
  where
    by : (b : Bool) → (is_row row ≡ true) × (list_all is_row rows ≡ true) → list_all is_row (placed key i rows) ≡ true → list_all is_row (if b then (key, i) ∷ row ∷ rows else row ∷ placed key i rows) ≡ true
    by true p rest = both (is_idn i) (list_all is_row (row ∷ rows)) here (both (is_row row) (list_all is_row rows) p.0 p.1)
    by false p rest = both (is_row row) (list_all is_row (placed key i rows)) p.0 rest

pub idns_placed : (key : Key) (i : Kept) (idns : Table) → are_idns idns ≡ true → lookup (is_key key) idns ≡ None → is_idn i ≡ true → are_idns (placed key i idns) ≡ true
idns_placed key i idns all none is =
    let p = both_are (is_rising (keys_of idns)) (list_all is_row idns) all in
    both (is_rising (keys_of (placed key i idns))) (list_all is_row (placed key i idns)) (rising_placed key i idns p.0 none) (rows_placed key i idns p.1 is)
