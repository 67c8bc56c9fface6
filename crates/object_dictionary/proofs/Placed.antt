-- An object that is placed among others keeps their indexes rising.
use Rattle.std.proofs.Common.{◌≡◌, ℕ, suc, ◌+◌, ◌<◌, ◌≤◌, Bool, true, false, cond, ◌&&◌, not, nat_eq, nat_lt, List, [], ◌∷◌, ◌++◌, length, drop, insert, remove, None, Some, slice_get, refl, sym, ap, ◌∙◌, arith, ltb-true, ltb-false, lt-ltb, le-ltb, le-leb, false-eqb, if◌then◌else◌}
use Rattle.std.specs.List.{list_all, position_or_len}
use Rattle.std.specs.Map.{lookup, keys_of}
use Rattle.indexmap.specs.IndexMap.{insert_entry, move_index}
use Rattle.object_dictionary.specs.declared.object.Object.{Object}
use Rattle.object_dictionary.specs.declared.entry.EntrySpec.{EntrySpec}
use Rattle.object_dictionary.specs.Dictionary.{Table, object_of, with_entries}
use Rattle.object_dictionary.specs.Sound.{is_row, is_rising, is_table, placed}
use Rattle.object_dictionary.proofs.Tests.{both, and_of, drop_at}
use Rattle.object_dictionary.proofs.Kept.{table_is, is_table_by}

-- ---- the place

pub place_within : (index : ℕ) (table : Table) → position_or_len (nat_lt index) (keys_of table) ≤ length table
place_within index [] = omega arith
place_within index (row ∷ rows) = by (nat_lt index row.0) (place_within index rows)
  where
    by : (b : Bool) → position_or_len (nat_lt index) (keys_of rows) ≤ length rows → cond (not b) (1 + position_or_len (nat_lt index) (keys_of rows)) 0 ≤ suc (length rows)
    by true h = omega arith
    by false h = omega arith

insert_next : (x y : ℕ × Object) (xs : Table) (n : ℕ) → insert (y ∷ xs) (1 + n) x ≡ y ∷ insert xs n x
insert_next x y xs n = ap (λ k. insert (y ∷ xs) k x) (let e : 1 + n ≡ suc n = omega arith in e)

pub insert_placed : (index : ℕ) (o : Object) (table : Table) → insert table (position_or_len (nat_lt index) (keys_of table)) (index, o) ≡ placed index o table
insert_placed index o [] = refl
insert_placed index o (row ∷ rows) = by (nat_lt index row.0) (insert_placed index o rows)
  where
    by : (b : Bool) → insert rows (position_or_len (nat_lt index) (keys_of rows)) (index, o) ≡ placed index o rows →
        insert (row ∷ rows) (cond (not b) (1 + position_or_len (nat_lt index) (keys_of rows)) 0) (index, o) ≡ (if b then (index, o) ∷ row ∷ rows else row ∷ placed index o rows)
    by true h = refl
    by false h = insert_next (index, o) row rows (position_or_len (nat_lt index) (keys_of rows)) ∙ ap (λ l. row ∷ l) h

-- the row at a place has a greater index, or it has not
pub place_hit : (index at key : ℕ) (o : Object) (table : Table) → slice_get table at ≡ Some (key, o) → index < key → position_or_len (nat_lt index) (keys_of (drop at table)) ≡ 0
place_hit index at key o table got less = rw (drop_at table at (key, o) got, lt-ltb index key less) refl

pub place_miss : (index at key : ℕ) (o : Object) (table : Table) → slice_get table at ≡ Some (key, o) → key ≤ index →
    position_or_len (nat_lt index) (keys_of (drop at table)) ≡ 1 + position_or_len (nat_lt index) (keys_of (drop (at + 1) table))
place_miss index at key o table got least = rw (drop_at table at (key, o) got, le-ltb index key least) refl

-- ---- what the map does

absent_first : (index : ℕ) (row : ℕ × Object) (rows : Table) → object_of (row ∷ rows) index ≡ None → (nat_eq index row.0 ≡ false) × (object_of rows index ≡ None)
absent_first index row rows none = by (nat_eq index row.0) refl none
  where
    by : (b : Bool) → nat_eq index row.0 ≡ b → cond b (Some row.1) (lookup (nat_eq index) rows) ≡ None → (nat_eq index row.0 ≡ false) × (object_of rows index ≡ None)
    by true e none = absurd (cc)
    by false e none = (e, none)

entry_last : (index : ℕ) (o : Object) (table : Table) → object_of table index ≡ None → insert_entry nat_eq table index o ≡ table ++ (index, o) ∷ []
entry_last index o [] none = refl
entry_last index o (row ∷ rows) none =
    let a = absent_first index row rows none in
    rw a.0 (ap (λ l. row ∷ l) (entry_last index o rows a.1))

index_last : (index : ℕ) (table : Table) → object_of table index ≡ None → position_or_len (nat_eq index) (keys_of table) ≡ length table
index_last index [] none = refl
index_last index (row ∷ rows) none =
    let a = absent_first index row rows none in
    let rest : position_or_len (nat_eq index) (keys_of rows) ≡ length rows = index_last index rows a.1 in
    rw a.0 (omega (arith, rest))

get_last : (table : Table) (row : ℕ × Object) → slice_get (table ++ row ∷ []) (length table) ≡ Some row
get_last [] row = refl
get_last (x ∷ xs) row = get_last xs row

remove_last : (table : Table) (row : ℕ × Object) → remove (table ++ row ∷ []) (length table) ≡ table
remove_last [] row = refl
remove_last (x ∷ xs) row = ap (λ l. x ∷ l) (remove_last xs row)

-- a new pair that is moved to a place stands there
pub moved : (index : ℕ) (o : Object) (table : Table) (place : ℕ) → object_of table index ≡ None →
    move_index (insert_entry nat_eq table index o) (position_or_len (nat_eq index) (keys_of table)) place ≡ insert table place (index, o)
moved index o table place none =
    rw (entry_last index o table none, index_last index table none, get_last table (index, o), remove_last table (index, o)) refl

-- what an insertion of an object leaves, by its entries as they are kept
pub inserted : (index : ℕ) (o : Object) (kept : List EntrySpec) (table : Table) (place : ℕ) → object_of table index ≡ None → place ≡ position_or_len (nat_lt index) (keys_of table) → kept ≡ o.entries →
    move_index (insert_entry nat_eq table index (with_entries o kept)) (position_or_len (nat_eq index) (keys_of table)) place ≡ placed index o table
inserted index o kept table place none is same =
    ap (λ (es : List EntrySpec). move_index (insert_entry nat_eq table index (with_entries o es)) (position_or_len (nat_eq index) (keys_of table)) place) same
    ∙ moved index o table place none ∙ ap (λ n. insert table n (index, o)) is ∙ insert_placed index o table

-- ---- rising indexes

above_placed : (k index : ℕ) (o : Object) (table : Table) → list_all (nat_lt k) (keys_of table) ≡ true → nat_lt k index ≡ true → list_all (nat_lt k) (keys_of (placed index o table)) ≡ true
above_placed k index o [] all here = and_of (nat_lt k index) true here refl
above_placed k index o (row ∷ rows) all here =
    let p = both (nat_lt k row.0) (list_all (nat_lt k) (keys_of rows)) all in
    by (nat_lt index row.0) p (above_placed k index o rows p.1 here)
  where
    by : (b : Bool) → (nat_lt k row.0 ≡ true) × (list_all (nat_lt k) (keys_of rows) ≡ true) → list_all (nat_lt k) (keys_of (placed index o rows)) ≡ true →
        list_all (nat_lt k) (keys_of (if b then (index, o) ∷ row ∷ rows else row ∷ placed index o rows)) ≡ true
    by true p rest = and_of (nat_lt k index) (nat_lt k row.0 && list_all (nat_lt k) (keys_of rows)) here (and_of (nat_lt k row.0) (list_all (nat_lt k) (keys_of rows)) p.0 p.1)
    by false p rest = and_of (nat_lt k row.0) (list_all (nat_lt k) (keys_of (placed index o rows))) p.0 rest

above_more : (a b : ℕ) (keys : List ℕ) → a < b → list_all (nat_lt b) keys ≡ true → list_all (nat_lt a) keys ≡ true
above_more a b [] less all = refl
above_more a b (k ∷ ks) less all =
    let p = both (nat_lt b k) (list_all (nat_lt b) ks) all in
    let h : b < k = ltb-true b k p.0 in
    and_of (nat_lt a k) (list_all (nat_lt a) ks) (lt-ltb a k (omega arith)) (above_more a b ks less p.1)

pub rising_placed : (index : ℕ) (o : Object) (table : Table) → is_rising (keys_of table) ≡ true → object_of table index ≡ None → is_rising (keys_of (placed index o table)) ≡ true
rising_placed index o [] rising none = refl
rising_placed index o (row ∷ rows) rising none =
    let p = both (list_all (nat_lt row.0) (keys_of rows)) (is_rising (keys_of rows)) rising in
    let a = absent_first index row rows none in
    by (nat_lt index row.0) refl p a.0 (rising_placed index o rows p.1 a.1)
  where
    by : (b : Bool) → nat_lt index row.0 ≡ b → (list_all (nat_lt row.0) (keys_of rows) ≡ true) × (is_rising (keys_of rows) ≡ true) → nat_eq index row.0 ≡ false → is_rising (keys_of (placed index o rows)) ≡ true →
        is_rising (keys_of (if b then (index, o) ∷ row ∷ rows else row ∷ placed index o rows)) ≡ true
    by true e p other rest =
        let less : index < row.0 = ltb-true index row.0 e in
        and_of (nat_lt index row.0 && list_all (nat_lt index) (keys_of rows)) (list_all (nat_lt row.0) (keys_of rows) && is_rising (keys_of rows))
        (and_of (nat_lt index row.0) (list_all (nat_lt index) (keys_of rows)) e (above_more index row.0 (keys_of rows) less p.0))
        (and_of (list_all (nat_lt row.0) (keys_of rows)) (is_rising (keys_of rows)) p.0 p.1)
    by false e p other rest =
        let least : row.0 ≤ index = ltb-false index row.0 e in
        let differs = false-eqb index row.0 (sym other) in
        and_of (list_all (nat_lt row.0) (keys_of (placed index o rows))) (is_rising (keys_of (placed index o rows)))
        (above_placed row.0 index o rows p.0 (lt-ltb row.0 index (omega (arith, differs)))) rest

rows_placed : (index : ℕ) (o : Object) (table : Table) → list_all is_row table ≡ true → is_row (index, o) ≡ true → list_all is_row (placed index o table) ≡ true
rows_placed index o [] all here = and_of (is_row (index, o)) true here refl
rows_placed index o (row ∷ rows) all here =
    let p = both (is_row row) (list_all is_row rows) all in
    by (nat_lt index row.0) p (rows_placed index o rows p.1 here)
  where
    by : (b : Bool) → (is_row row ≡ true) × (list_all is_row rows ≡ true) → list_all is_row (placed index o rows) ≡ true → list_all is_row (if b then (index, o) ∷ row ∷ rows else row ∷ placed index o rows) ≡ true
    by true p rest = and_of (is_row (index, o)) (list_all is_row (row ∷ rows)) here (and_of (is_row row) (list_all is_row rows) p.0 p.1)
    by false p rest = and_of (is_row row) (list_all is_row (placed index o rows)) p.0 rest

len_placed : (index : ℕ) (o : Object) (table : Table) → length (placed index o table) ≡ suc (length table)
len_placed index o [] = refl
len_placed index o (row ∷ rows) = by (nat_lt index row.0) (len_placed index o rows)
  where
    by : (b : Bool) → length (placed index o rows) ≡ suc (length rows) → length (if b then (index, o) ∷ row ∷ rows else row ∷ placed index o rows) ≡ suc (suc (length rows))
    by true h = refl
    by false h = ap suc h

pub table_placed : (index : ℕ) (o : Object) (table : Table) → is_table table ≡ true → object_of table index ≡ None → length table < 258 → is_row (index, o) ≡ true → is_table (placed index o table) ≡ true
table_placed index o table sound none few here =
    let s = table_is table sound in
    is_table_by (placed index o table) (record {
      rising = rising_placed index o table s.rising none;
      few = le-leb (length (placed index o table)) 258 (omega (arith, len_placed index o table));
      rows = rows_placed index o table s.rows here;
    })
