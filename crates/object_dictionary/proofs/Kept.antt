-- Downloads leave objects and tables that a dictionary may have.
use Rattle.std.proofs.Common.{◌≡◌, ℕ, zero, suc, ◌+◌, ◌≤◌, ◌<◌, get_or, Bool, true, false, cond, ◌&&◌, ◌||◌, ◌==◌, nat_eq, nat_lt, nat_le, List, [], ◌∷◌, length, Option, None, Some, Result, Ok, Err, slice_get, slice_set, refl, sym, ap, subst, ◌∙◌, arith, leb-true, le-leb, ltb-false, eqb-true, if◌then◌else◌}
use Rattle.std.proofs.lemmas.List.{set-get_or, length-set}
use Rattle.std.proofs.lemmas.Option.{get_or_from_slice_get, slice_get-get_or}
use Rattle.std.proofs.lemmas.Map.{length-set_value, keys-set_value}
use Rattle.std.proofs.lemmas.Map.Steps.{set_value_same}
use Rattle.std.specs.List.{list_all}
use Rattle.std.specs.Map.{lookup, set_value, keys_of}
use Rattle.object_dictionary.specs.declared.entry.EntrySpec.{EntrySpec}
use Rattle.object_dictionary.specs.declared.object.Object.{Object}
use Rattle.object_dictionary.specs.Entries.{is_text, size_of_kind, is_entry, with_value, or_else, unless, check_entry, write_refusal, size_refusal, bound_refusal, download_entry, Stores}
use Rattle.object_dictionary.specs.Dictionary.{Table, is_count, entry_place, entry_at, with_entries, result_map, download_object, download_found, changed, object_of, download}
use Rattle.object_dictionary.specs.Whole.{sizes}
use Rattle.object_dictionary.specs.Sound.{are_entries, is_object, are_sized, is_emitter, is_row, is_rising, is_table}
use Rattle.object_dictionary.proofs.Tests.{both, and_of, all_get, all_set}

-- what stands at a place, written there, changes nothing
pub set_same : {X : Type 0} (xs : List X) (i : ℕ) (x : X) → slice_get xs i ≡ Some x → slice_set xs i x ≡ xs
set_same xs i x at = ap (slice_set xs i) (sym (get_or_from_slice_get xs i x x at)) ∙ set-get_or xs i x

-- a download to an entry of an object
pub object_stored : (al : ℕ) (o : Object) (sub : ℕ) (bytes : List ℕ) (e new : EntrySpec) (r : Option ℕ) → is_count o sub ≡ false → entry_at o sub ≡ Some e →
    Stores (download_entry al e bytes) r e new → Stores (download_object al o sub bytes) r o (with_entries o (slice_set o.entries (entry_place o sub) new))
object_stored al o sub bytes e new None here at stores = rw (here, at, stores) refl
object_stored al o sub bytes e new (Some code) here at (refused, same) =
    (rw (here, at, refused) refl, ap (with_entries o) (ap (slice_set o.entries (entry_place o sub)) same ∙ set_same o.entries (entry_place o sub) e at))

pub object_stored_at : (al : ℕ) (o : Object) (sub : ℕ) (bytes : List ℕ) (e new : EntrySpec) (r : Option ℕ) (place : ℕ) → is_count o sub ≡ false → place ≡ entry_place o sub → place < length o.entries →
    e ≡ get_or o.entries place e → Stores (download_entry al e bytes) r e new → Stores (download_object al o sub bytes) r o (with_entries o (slice_set o.entries place new))
object_stored_at al o sub bytes e new r place here is within at stores =
    let found : slice_get o.entries place ≡ Some e = slice_get-get_or o.entries place e within ∙ ap Some (sym at) in
    subst (λ p. Stores (download_object al o sub bytes) r o (with_entries o (slice_set o.entries p new))) (sym is)
    (object_stored al o sub bytes e new r here (ap (slice_get o.entries) (sym is) ∙ found) stores)

-- what was done to an object, in its table
pub table_stored : (table : Table) (index : ℕ) (change : Object → Result Object ℕ) (o new : Object) (r : Option ℕ) → object_of table index ≡ Some o →
    Stores (change o) r o new → Stores (changed table index change (object_of table index)) r table (set_value (nat_eq index) table new)
table_stored table index change o new None at stores = rw (at, stores) refl
table_stored table index change o new (Some code) at (refused, same) =
    (rw (at, refused) refl, ap (set_value (nat_eq index) table) same ∙ set_value_same (nat_eq index) table o at)

row_here : (b : Bool) (index : ℕ) (row : ℕ × Object) (later : Option Object) (o : Object) → nat_eq index row.0 ≡ b → is_row row ≡ true → cond b (Some row.1) later ≡ Some o →
    (later ≡ Some o → is_row (index, o) ≡ true) → is_row (index, o) ≡ true
row_here true index row later o e here at rest =
    let same : row.1 ≡ o = cc in
    subst (λ i. is_row (i, o) ≡ true) (sym (eqb-true index row.0 e)) (subst (λ p. is_row (row.0, p) ≡ true) same here)
row_here false index row later o e here at rest = rest at

-- what a table has is sound
pub row_of : (table : Table) (index : ℕ) (o : Object) → list_all is_row table ≡ true → object_of table index ≡ Some o → is_row (index, o) ≡ true
row_of [] index o all at = absurd (cc)
row_of (row ∷ rows) index o all at =
    let parts = both (is_row row) (list_all is_row rows) all in
    row_here (nat_eq index row.0) index row (lookup (nat_eq index) rows) o refl parts.0 at (row_of rows index o parts.1)

rows_here : (b : Bool) (index : ℕ) (row : ℕ × Object) (rows later : Table) (new : Object) → nat_eq index row.0 ≡ b → is_row row ≡ true → list_all is_row rows ≡ true →
    is_row (index, new) ≡ true → list_all is_row later ≡ true → list_all is_row (cond b ((row.0, new) ∷ rows) (row ∷ later)) ≡ true
rows_here true index row rows later new e here all fresh rest = and_of (is_row (row.0, new)) (list_all is_row rows) (subst (λ i. is_row (i, new) ≡ true) (eqb-true index row.0 e) fresh) all
rows_here false index row rows later new e here all fresh rest = and_of (is_row row) (list_all is_row later) here rest

-- a table with another object of an index is sound where that object is
pub rows_kept : (table : Table) (index : ℕ) (new : Object) → list_all is_row table ≡ true → is_row (index, new) ≡ true → list_all is_row (set_value (nat_eq index) table new) ≡ true
rows_kept [] index new all here = refl
rows_kept (row ∷ rows) index new all here =
    let parts = both (is_row row) (list_all is_row rows) all in
    rows_here (nat_eq index row.0) index row rows (set_value (nat_eq index) rows new) new refl parts.0 parts.1 here (rows_kept rows index new parts.1 here)

-- what a table's test says
pub record TableIs (table : Table) : Type 0 where
  pub rising : is_rising (keys_of table) ≡ true
  pub few : nat_le (length table) 258 ≡ true
  pub rows : list_all is_row table ≡ true

pub table_is : (table : Table) → is_table table ≡ true → TableIs table
table_is table sound =
    let a = both (is_rising (keys_of table) && nat_le (length table) 258) (list_all is_row table) sound in
    let b = both (is_rising (keys_of table)) (nat_le (length table) 258) a.0 in
    record { rising = b.0; few = b.1; rows = a.1 }

pub is_table_by : (table : Table) → TableIs table → is_table table ≡ true
is_table_by table s =
    and_of (is_rising (keys_of table) && nat_le (length table) 258) (list_all is_row table) (and_of (is_rising (keys_of table)) (nat_le (length table) 258) s.rising s.few) s.rows

pub table_kept : (table : Table) (index : ℕ) (new : Object) → is_table table ≡ true → is_row (index, new) ≡ true → is_table (set_value (nat_eq index) table new) ≡ true
table_kept table index new sound here =
    let s = table_is table sound in
    is_table_by (set_value (nat_eq index) table new) (record {
      rising = ap is_rising (keys-set_value (nat_eq index) table new) ∙ s.rising;
      few = ap (λ n. nat_le n 258) (length-set_value (nat_eq index) table new) ∙ s.few;
      rows = rows_kept table index new s.rows here;
    })

-- what an object's test says
pub record ObjectIs (o : Object) : Type 0 where
  pub some : nat_le 1 (length o.entries) ≡ true
  pub few : nat_le (length o.entries) (if o.code == 7 then 1 else 254) ≡ true
  pub small : nat_le (sizes o.entries) 16000 ≡ true
  pub named : nat_le (length o.name) 40 ≡ true
  pub entries : list_all is_entry o.entries ≡ true

pub object_is : (o : Object) → is_object o ≡ true → ObjectIs o
object_is o sound =
    let a = nat_le 1 (length o.entries) in
    let b = nat_le (length o.entries) (if o.code == 7 then 1 else 254) in
    let c = nat_le (sizes o.entries) 16000 in
    let d = nat_le (length o.name) 40 in
    let p = both (a && b && c && d) (are_entries o.entries) sound in
    let q = both (a && b && c) d p.0 in
    let r = both (a && b) c q.0 in
    let s = both a b r.0 in
    record { some = s.0; few = s.1; small = r.1; named = q.1; entries = p.1 }

pub is_object_by : (o : Object) → ObjectIs o → is_object o ≡ true
is_object_by o s =
    let a = nat_le 1 (length o.entries) in
    let b = nat_le (length o.entries) (if o.code == 7 then 1 else 254) in
    let c = nat_le (sizes o.entries) 16000 in
    let d = nat_le (length o.name) 40 in
    and_of (a && b && c && d) (are_entries o.entries) (and_of (a && b && c) d (and_of (a && b) c (and_of a b s.some s.few) s.small) s.named) s.entries

pub few_entries : (o : Object) → ObjectIs o → length o.entries ≤ 254
few_entries o s = by (o.code == 7) (leb-true (length o.entries) (if o.code == 7 then 1 else 254) s.few)
  where
    by : (b : Bool) → length o.entries ≤ (if b then 1 else 254) → length o.entries ≤ 254
    by true h = omega arith
    by false h = h

-- the object of an index in a sound table
pub found_is : (table : Table) (index : ℕ) (o : Object) → is_table table ≡ true → object_of table index ≡ Some o → ObjectIs o
found_is table index o sound at = object_is o (both (is_object o) (is_emitter index o) (row_of table index o (table_is table sound).rows at)).0

pub small_of : (o : Object) → ObjectIs o → sizes o.entries ≤ 16000
small_of o s = leb-true (sizes o.entries) 16000 s.small

pub named_of : (o : Object) → ObjectIs o → length o.name ≤ 40
named_of o s = leb-true (length o.name) 40 s.named

-- ---- entries with other values

emitter_by : (a b : Bool) (x y x2 y2 : Bool) → (x ≡ true → x2 ≡ true) → (y ≡ true → y2 ≡ true) → (if a then x else if b then y else true) ≡ true → (if a then x2 else if b then y2 else true) ≡ true
emitter_by true b x y x2 y2 f g h = f h
emitter_by false true x y x2 y2 f g h = g h
emitter_by false false x y x2 y2 f g h = refl

-- entries that differ in their values alone
pub record Alike (old new : List EntrySpec) : Type 0 where
  pub len : length new ≡ length old
  pub size : sizes new ≡ sizes old
  pub sound : list_all is_entry new ≡ true
  pub sized : (least most : ℕ) → are_sized least most old ≡ true → are_sized least most new ≡ true

pub row_alike : (index : ℕ) (o : Object) (new : List EntrySpec) → is_row (index, o) ≡ true → Alike o.entries new → is_row (index, with_entries o new) ≡ true
row_alike index o new sound alike =
    let parts = both (is_object o) (is_emitter index o) sound in
    let s = object_is o parts.0 in
    let changed_object = with_entries o new in
    and_of (is_object changed_object) (is_emitter index changed_object)
    (is_object_by changed_object (record {
      some = ap (nat_le 1) alike.len ∙ s.some;
      few = ap (λ n. nat_le n (if o.code == 7 then 1 else 254)) alike.len ∙ s.few;
      small = ap (λ n. nat_le n 16000) alike.size ∙ s.small;
      named = s.named;
      entries = alike.sound;
    }))
    (emitter_by (index == 0x2F00) (index == 0x2F01) (are_sized 8 8 o.entries) (are_sized 14 1514 o.entries) (are_sized 8 8 new) (are_sized 14 1514 new)
    (alike.sized 8 8) (alike.sized 14 1514) parts.1)

-- an entry is sound with another value of its sizes
pub value_sound : (e : EntrySpec) (bytes : List ℕ) → is_entry e ≡ true → e.least ≤ length bytes → length bytes ≤ e.most → is_entry (with_value e bytes) ≡ true
value_sound e bytes sound least most =
    let a = is_text e.kind || e.most == size_of_kind e.kind in
    let b = nat_le 1 e.least in
    let c = nat_le e.least e.most in
    let d = nat_le e.most 8000 in
    let n = nat_le (length e.name) 40 in
    let p = both (a && b && c && d && nat_le e.least (length e.value) && nat_le (length e.value) e.most) n sound in
    let q = both (a && b && c && d && nat_le e.least (length e.value)) (nat_le (length e.value) e.most) p.0 in
    let r = both (a && b && c && d) (nat_le e.least (length e.value)) q.0 in
    and_of (a && b && c && d && nat_le e.least (length bytes) && nat_le (length bytes) e.most) n
    (and_of (a && b && c && d && nat_le e.least (length bytes)) (nat_le (length bytes) e.most)
    (and_of (a && b && c && d) (nat_le e.least (length bytes)) r.0 (le-leb e.least (length bytes) least)) (le-leb (length bytes) e.most most)) p.1

pub both_none : (a b : Option ℕ) → or_else a b ≡ None → (a ≡ None) × (b ≡ None)
both_none None b e = (refl, e)
both_none (Some code) b e = absurd (cc)

pub unless_ok : {X : Type 0} (r : Option ℕ) (x y : X) → unless r x ≡ Ok y → (r ≡ None) × (y ≡ x)
unless_ok None x y e = (refl, let s : x ≡ y = cc in sym s)
unless_ok (Some code) x y e = absurd (cc)

sized_by : (a b : Bool) (x y : ℕ) → (if a then Some x else if b then Some y else None) ≡ None → (a ≡ false) × (b ≡ false)
sized_by true b x y e = absurd (cc)
sized_by false true x y e = absurd (cc)
sized_by false false x y e = (refl, refl)

pub sized : (least most size : ℕ) → size_refusal least most size ≡ None → (least ≤ size) × (size ≤ most)
sized least most size e =
    let t = sized_by (nat_lt most size) (nat_lt size least) 0x06070012 0x06070013 e in
    (ltb-false size least t.1, ltb-false most size t.0)

pub entry_kept : (al : ℕ) (e new : EntrySpec) (bytes : List ℕ) → download_entry al e bytes ≡ Ok new → (new ≡ with_value e bytes) × (e.least ≤ length bytes) × (length bytes ≤ e.most)
entry_kept al e new bytes done =
    let u = unless_ok (or_else (check_entry al e (length bytes)) (bound_refusal e bytes)) (with_value e bytes) new done in
    let n = both_none (check_entry al e (length bytes)) (bound_refusal e bytes) u.0 in
    let m = both_none (write_refusal al e) (size_refusal e.least e.most (length bytes)) n.0 in
    let s = sized e.least e.most (length bytes) m.1 in
    (u.1, s.0, s.1)

sizes_set : (entries : List EntrySpec) (place : ℕ) (e new : EntrySpec) → slice_get entries place ≡ Some e → new.most ≡ e.most → sizes (slice_set entries place new) ≡ sizes entries
sizes_set [] place e new at same = absurd (cc)
sizes_set (x ∷ xs) zero e new at same = let here : x ≡ e = cc in ap (λ n. n + sizes xs) (same ∙ sym (ap (λ (y : EntrySpec). y.most) here))
sizes_set (x ∷ xs) (suc place) e new at same = ap (λ n. x.most + n) (sizes_set xs place e new at same)

pub set_alike : (entries : List EntrySpec) (place : ℕ) (e : EntrySpec) (bytes : List ℕ) → slice_get entries place ≡ Some e → list_all is_entry entries ≡ true → e.least ≤ length bytes → length bytes ≤ e.most →
    Alike entries (slice_set entries place (with_value e bytes))
set_alike entries place e bytes at all least most = record {
  len = length-set entries place (with_value e bytes);
  size = sizes_set entries place e (with_value e bytes) at refl;
  sound = all_set is_entry entries place (with_value e bytes) all (value_sound e bytes (all_get is_entry entries place e all at) least most);
  sized = λ least most old. all_set (λ (x : EntrySpec). x.least == least && x.most == most) entries place (with_value e bytes) old
      (all_get (λ (x : EntrySpec). x.least == least && x.most == most) entries place e old at);
}

-- what was made of what was done
pub map_ok : {X Y : Type 0} (f : X → Y) (r : Result X ℕ) (y : Y) → result_map f r ≡ Ok y → (x : X) × (r ≡ Ok x) × (f x ≡ y)
map_ok f (Ok x) y e = (x, refl, cc)
map_ok f (Err code) y e = absurd (cc)

found_kept : (al index : ℕ) (o new : Object) (place : ℕ) (bytes : List ℕ) (r : Option EntrySpec) → slice_get o.entries place ≡ r → is_row (index, o) ≡ true → download_found al o place bytes r ≡ Ok new → is_row (index, new) ≡ true
found_kept al index o new place bytes None at sound done = absurd (cc)
found_kept al index o new place bytes (Some e) at sound done =
    let (changed_entry, stored, is) = map_ok (λ x. with_entries o (slice_set o.entries place x)) (download_entry al e bytes) new done in
    let k = entry_kept al e changed_entry bytes stored in
    let s = object_is o (both (is_object o) (is_emitter index o) sound).0 in
    let alike = set_alike o.entries place e bytes at s.entries k.1 k.2 in
    subst (λ x. is_row (index, x) ≡ true) is (subst (λ x. is_row (index, with_entries o (slice_set o.entries place x)) ≡ true) (sym k.0) (row_alike index o _ sound alike))

counted_kept : (b : Bool) (al index : ℕ) (o new : Object) (place : ℕ) (bytes : List ℕ) → is_row (index, o) ≡ true →
    (if b then Err 0x06010002 else download_found al o place bytes (slice_get o.entries place)) ≡ Ok new → is_row (index, new) ≡ true
counted_kept true al index o new place bytes sound done = absurd (cc)
counted_kept false al index o new place bytes sound done = found_kept al index o new place bytes (slice_get o.entries place) refl sound done

pub object_kept : (al index : ℕ) (o new : Object) (sub : ℕ) (bytes : List ℕ) → is_row (index, o) ≡ true → download_object al o sub bytes ≡ Ok new → is_row (index, new) ≡ true
object_kept al index o new sub bytes sound done = counted_kept (is_count o sub) al index o new (entry_place o sub) bytes sound done

-- what a change of an object leaves
pub changed_kept : (table new : Table) (index : ℕ) (change : Object → Result Object ℕ) → ((o p : Object) → is_row (index, o) ≡ true → change o ≡ Ok p → is_row (index, p) ≡ true) →
    is_table table ≡ true → changed table index change (object_of table index) ≡ Ok new → is_table new ≡ true
changed_kept table new index change keeps sound done = by (object_of table index) refl done
  where
    by : (r : Option Object) → object_of table index ≡ r → changed table index change r ≡ Ok new → is_table new ≡ true
    by None at done = absurd (cc)
    by (Some o) at done =
        let (p, made, is) = map_ok (λ x. set_value (nat_eq index) table x) (change o) new done in
        subst (λ t. is_table t ≡ true) is (table_kept table index p sound (keeps o p (row_of table index o (table_is table sound).rows at) made))

pub download_kept : (al : ℕ) (table new : Table) (index sub : ℕ) (bytes : List ℕ) → is_table table ≡ true → download al table index sub bytes ≡ Ok new → is_table new ≡ true
download_kept al table new index sub bytes sound done =
    changed_kept table new index (λ o. download_object al o sub bytes) (λ o p here made. object_kept al index o p sub bytes here made) sound done

-- a call that stores leaves a sound table
pub stores_kept : (done : Result Table ℕ) (r : Option ℕ) (old new : Table) → ((t : Table) → done ≡ Ok t → is_table t ≡ true) → is_table old ≡ true → Stores done r old new → is_table new ≡ true
stores_kept done None old new keeps sound stored = keeps new stored
stores_kept done (Some code) old new keeps sound stored = subst (λ t. is_table t ≡ true) (sym stored.1) sound
