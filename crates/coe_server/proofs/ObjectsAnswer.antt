-- What an object dictionary answers: values no longer than a transfer, and abort codes of 32 bits.
use Rattle.std.proofs.Common.{◌≡◌, ℕ, suc, ◌*◌, ◌<◌, ◌≤◌, Bool, true, false, ◌&&◌, ◌||◌, ◌==◌, nat_le, nat_lt, List, [], ◌∷◌, ◌++◌, length, Option, None, Some, Result, Ok, Err, refl, ap, subst, arith, codes, take, drop, lit<, leb-true, length-append, if◌then◌else◌}
use Rattle.std.specs.List.{list_all}
use Rattle.byteorder.specs.Endian.{little_bytes}
use Rattle.object_dictionary.specs.declared.entry.EntrySpec.{EntrySpec}
use Rattle.object_dictionary.specs.declared.object.Object.{Object}
use Rattle.object_dictionary.specs.Entries.{is_text, size_of_kind, is_entry, or_else, unless, read_refusal, write_refusal, size_refusal, number_refusal, bound_refusal, check_entry, download_entry, number_in}
use Rattle.object_dictionary.specs.Dictionary.{Table, object_of, is_count, entry_place, entry_at, result_map, check_found, check_object, checked, check_download, download_found, download_object, changed, download, upload_found, upload_object, read_from, upload}
use Rattle.object_dictionary.specs.Whole.{sizes, is_whole, first_refusal, whole_size, check_whole, check_download_all, count_refusal, values_refusal, whole_refusal, download_whole, download_all, values_in, count_octets, read_whole_refusal, upload_whole, upload_all}
use Rattle.object_dictionary.specs.Information.{is_in_list, list_octets, counts_octets, list_info, described, object_info, entry_octets, found_info, entry_described, entry_info}
use Rattle.object_dictionary.specs.Sound.{is_table}
use Rattle.object_dictionary.proofs.Tests.{both, all_get}
use Rattle.object_dictionary.proofs.Kept.{unless_ok, table_is, ObjectIs, found_is, small_of, named_of}

-- ---- abort codes

-- a refusal's code has 32 bits
abbrev pub Small : Option ℕ → Type 0
Small r = (code : ℕ) → r ≡ Some code → code < 4294967296

small_some : (x : ℕ) → x < 4294967296 → Small (Some x)
small_some x h code e = let same : x ≡ code = cc in subst (λ n. n < 4294967296) same h

small_none : Small None
small_none code e = absurd (cc)

small_two : (a b : Bool) (x y : ℕ) → x < 4294967296 → y < 4294967296 → Small (if a then Some x else if b then Some y else None)
small_two true b x y h k = small_some x h
small_two false true x y h k = small_some y k
small_two false false x y h k = small_none

pub small_or : (a b : Option ℕ) → Small a → Small b → Small (or_else a b)
small_or None b f g = g
small_or (Some x) b f g = f

small_write : (al : ℕ) (e : EntrySpec) → Small (write_refusal al e)
small_write al e = small_two _ _ 0x06010002 0x08000022 (lit< tt) (lit< tt)

small_read : (al : ℕ) (e : EntrySpec) → Small (read_refusal al e)
small_read al e = small_two _ _ 0x06010001 0x08000022 (lit< tt) (lit< tt)

small_size : (least most size : ℕ) → Small (size_refusal least most size)
small_size least most size = small_two _ _ 0x06070012 0x06070013 (lit< tt) (lit< tt)

small_bound : (e : EntrySpec) (bytes : List ℕ) → Small (bound_refusal e bytes)
small_bound e bytes = by (is_text e.kind)
  where
    by : (b : Bool) → Small (if b then None else number_refusal e.kind e.min e.max (number_in e.kind bytes))
    by true = small_none
    by false = small_two _ _ 0x06090031 0x06090032 (lit< tt) (lit< tt)

small_first : (f : EntrySpec → Option ℕ) → ((e : EntrySpec) → Small (f e)) → (es : List EntrySpec) → Small (first_refusal f es)
small_first f each [] = small_none
small_first f each (e ∷ es) = small_or (f e) (first_refusal f es) (each e) (small_first f each es)

small_values : (es : List EntrySpec) (bytes : List ℕ) → Small (values_refusal es bytes)
small_values [] bytes = small_none
small_values (e ∷ es) bytes = small_or _ _ (small_bound e (take e.most bytes)) (small_values es (drop e.most bytes))

small_count : (o : Object) (from : ℕ) (bytes : List ℕ) → Small (count_refusal o from bytes)
small_count o from bytes = by (from == 0) _ _
  where
    by : (b c d : Bool) → Small (if b then (if c then Some 0x06090031 else if d then Some 0x06090032 else None) else None)
    by true c d = small_two c d 0x06090031 0x06090032 (lit< tt) (lit< tt)
    by false c d = small_none

small_entry : (al : ℕ) (e : EntrySpec) (size : ℕ) → Small (check_entry al e size)
small_entry al e size = small_or _ _ (small_write al e) (small_size e.least e.most size)

small_object : (al : ℕ) (o : Object) (sub size : ℕ) → Small (check_object al o sub size)
small_object al o sub size = by (is_count o sub) (entry_at o sub)
  where
    by : (b : Bool) (r : Option EntrySpec) → Small (if b then Some 0x06010002 else check_found al size r)
    by true r = small_some 0x06010002 (lit< tt)
    by false None = small_some 0x06090011 (lit< tt)
    by false (Some e) = small_entry al e size

small_checked : (f : Object → Option ℕ) → ((o : Object) → Small (f o)) → (r : Option Object) → Small (checked f r)
small_checked f each None = small_some 0x06020000 (lit< tt)
small_checked f each (Some o) = each o

pub small_check : (al : ℕ) (table : Table) (index sub size : ℕ) → Small (check_download al table index sub size)
small_check al table index sub size = small_checked _ (λ o. small_object al o sub size) (object_of table index)

small_whole : (al : ℕ) (o : Object) (from size : ℕ) → Small (check_whole al o from size)
small_whole al o from size = by (is_whole o from)
  where
    by : (b : Bool) → Small (if b then or_else (first_refusal (write_refusal al) o.entries) (size_refusal (whole_size o from) (whole_size o from) size) else Some 0x06010000)
    by true = small_or _ _ (small_first (write_refusal al) (small_write al) o.entries) (small_size _ _ size)
    by false = small_some 0x06010000 (lit< tt)

pub small_check_all : (al : ℕ) (table : Table) (index from size : ℕ) → Small (check_download_all al table index from size)
small_check_all al table index from size = small_checked _ (λ o. small_whole al o from size) (object_of table index)

-- a result whose refusal has 32 bits
abbrev pub SmallErr : {X : Type 0} → Result X ℕ → Type 0
SmallErr r = (code : ℕ) → r ≡ Err code → code < 4294967296

small_err : {X : Type 0} (x : ℕ) → x < 4294967296 → SmallErr {X = X} (Err x)
small_err x h code e = let same : x ≡ code = cc in subst (λ n. n < 4294967296) same h

small_ok : {X : Type 0} (x : X) → SmallErr (Ok x)
small_ok x code e = absurd (cc)

small_unless : {X : Type 0} (r : Option ℕ) (x : X) → Small r → SmallErr (unless r x)
small_unless None x small = small_ok x
small_unless (Some code) x small = small_err code (small code refl)

small_map : {X Y : Type 0} (f : X → Y) (r : Result X ℕ) → SmallErr r → SmallErr (result_map f r)
small_map f (Ok x) small = small_ok (f x)
small_map f (Err code) small = small_err code (small code refl)

small_changed : (table : Table) (index : ℕ) (change : Object → Result Object ℕ) → ((o : Object) → SmallErr (change o)) → (r : Option Object) → SmallErr (changed table index change r)
small_changed table index change each None = small_err 0x06020000 (lit< tt)
small_changed table index change each (Some o) = small_map _ (change o) (each o)

small_download_object : (al : ℕ) (o : Object) (sub : ℕ) (bytes : List ℕ) → SmallErr (download_object al o sub bytes)
small_download_object al o sub bytes = by (is_count o sub) (entry_at o sub)
  where
    by : (b : Bool) (r : Option EntrySpec) → SmallErr (if b then Err 0x06010002 else download_found al o (entry_place o sub) bytes r)
    by true r = small_err 0x06010002 (lit< tt)
    by false None = small_err 0x06090011 (lit< tt)
    by false (Some e) = small_map _ (download_entry al e bytes) (small_unless _ _ (small_or _ _ (small_entry al e (length bytes)) (small_bound e bytes)))

pub small_download : (al : ℕ) (table : Table) (index sub : ℕ) (bytes : List ℕ) → SmallErr (download al table index sub bytes)
small_download al table index sub bytes = small_changed table index _ (λ o. small_download_object al o sub bytes) (object_of table index)

small_download_whole : (al : ℕ) (o : Object) (from : ℕ) (bytes : List ℕ) → SmallErr (download_whole al o from bytes)
small_download_whole al o from bytes =
    small_unless (whole_refusal al o from bytes) _ (small_or _ _ (small_whole al o from (length bytes)) (small_or _ _ (small_count o from bytes) (small_values o.entries _)))

pub small_download_all : (al : ℕ) (table : Table) (index from : ℕ) (bytes : List ℕ) → SmallErr (download_all al table index from bytes)
small_download_all al table index from bytes = small_changed table index _ (λ o. small_download_whole al o from bytes) (object_of table index)

small_from : {X : Type 0} (read : Object → Result X ℕ) → ((o : Object) → SmallErr (read o)) → (r : Option Object) → SmallErr (read_from read r)
small_from read each None = small_err 0x06020000 (lit< tt)
small_from read each (Some o) = each o

small_upload_object : (al : ℕ) (o : Object) (sub : ℕ) → SmallErr (upload_object al o sub)
small_upload_object al o sub = by (is_count o sub) (entry_at o sub)
  where
    by : (b : Bool) (r : Option EntrySpec) → SmallErr (if b then Ok (length o.entries ∷ []) else upload_found al r)
    by true r = small_ok _
    by false None = small_err 0x06090011 (lit< tt)
    by false (Some e) = small_unless (read_refusal al e) e.value (small_read al e)

pub small_upload : (al : ℕ) (table : Table) (index sub : ℕ) → SmallErr (upload al table index sub)
small_upload al table index sub = small_from _ (λ o. small_upload_object al o sub) (object_of table index)

small_upload_whole : (al : ℕ) (o : Object) (from : ℕ) → SmallErr (upload_whole al o from)
small_upload_whole al o from = small_unless (read_whole_refusal al o from) _ (by (is_whole o from))
  where
    by : (b : Bool) → Small (if b then first_refusal (read_refusal al) o.entries else Some 0x06010000)
    by true = small_first (read_refusal al) (small_read al) o.entries
    by false = small_some 0x06010000 (lit< tt)

pub small_upload_all : (al : ℕ) (table : Table) (index from : ℕ) → SmallErr (upload_all al table index from)
small_upload_all al table index from = small_from _ (λ o. small_upload_whole al o from) (object_of table index)

pub small_list : (table : Table) (kind : ℕ) → SmallErr (list_info table kind)
small_list table kind = by (nat_lt 5 kind) (kind == 0)
  where
    by : (b c : Bool) → SmallErr {X = List ℕ} (if b then Err 0x06010000 else if c then Ok (little_bytes 2 0 ++ counts_octets table) else Ok (little_bytes 2 kind ++ list_octets kind table))
    by true c = small_err 0x06010000 (lit< tt)
    by false true = small_ok _
    by false false = small_ok _

pub small_object_info : (table : Table) (index : ℕ) → SmallErr (object_info table index)
small_object_info table index = small_from _ (λ o. small_ok (described index o)) (object_of table index)

pub small_entry_info : (table : Table) (index sub : ℕ) → SmallErr (entry_info table index sub)
small_entry_info table index sub = small_from _ (λ o. by o (is_count o sub) (entry_at o sub)) (object_of table index)
  where
    by : (o : Object) (b : Bool) (r : Option EntrySpec) → SmallErr (if b then Ok (entry_octets index 0 5 1 7 (codes "count")) else found_info index sub r)
    by o true r = small_ok _
    by o false None = small_err 0x06090011 (lit< tt)
    by o false (Some e) = small_ok _

-- ---- lengths of values

short_value : (e : EntrySpec) → is_entry e ≡ true → (length e.value ≤ e.most) × (e.most ≤ 8000) × (length e.name ≤ 40)
short_value e sound =
    let a = is_text e.kind || e.most == size_of_kind e.kind in
    let b = nat_le 1 e.least in
    let c = nat_le e.least e.most in
    let d = nat_le e.most 8000 in
    let f = nat_le e.least (length e.value) in
    let g = nat_le (length e.value) e.most in
    let p = both (a && b && c && d && f && g) (nat_le (length e.name) 40) sound in
    let q = both (a && b && c && d && f) g p.0 in
    let r = both (a && b && c && d) f q.0 in
    let s = both (a && b && c) d r.0 in
    (leb-true (length e.value) e.most q.1, leb-true e.most 8000 s.1, leb-true (length e.name) 40 p.1)

short_values : (es : List EntrySpec) → list_all is_entry es ≡ true → length (values_in es) ≤ sizes es
short_values [] all = omega arith
short_values (e ∷ es) all =
    let p = both (is_entry e) (list_all is_entry es) all in
    let v = short_value e p.0 in
    let rest = short_values es p.1 in
    omega (arith, length-append e.value (values_in es), v.0, rest)

ok_is : {X : Type 0} (x y : X) → let a : Result X ℕ = Ok x in a ≡ Ok y → x ≡ y
ok_is x y e = cc

short_object : (al : ℕ) (o : Object) (sub : ℕ) (bytes : List ℕ) → ObjectIs o → upload_object al o sub ≡ Ok bytes → length bytes ≤ 16384
short_object al o sub bytes sound done = by (is_count o sub) (entry_at o sub) refl done
  where
    by : (b : Bool) (r : Option EntrySpec) → entry_at o sub ≡ r → (if b then Ok (length o.entries ∷ []) else upload_found al r) ≡ Ok bytes → length bytes ≤ 16384
    by true r at done = let e = ap length (ok_is (length o.entries ∷ []) bytes done) in omega (arith, e)
    by false None at done = absurd (cc)
    by false (Some e) at done =
        let u = unless_ok (read_refusal al e) e.value bytes done in
        let v = short_value e (all_get is_entry o.entries (entry_place o sub) e sound.entries at) in
        let len = ap length u.1 in
        omega (arith, len, v.0, v.1)

short_count : (o : Object) (from : ℕ) → length (count_octets o from) ≤ 2
short_count o from = by (from == 0)
  where
    by : (b : Bool) → length (if b then length o.entries ∷ 0 ∷ [] else []) ≤ 2
    by true = omega arith
    by false = omega arith

short_whole : (al : ℕ) (o : Object) (from : ℕ) (bytes : List ℕ) → ObjectIs o → upload_whole al o from ≡ Ok bytes → length bytes ≤ 16384
short_whole al o from bytes sound done =
    let u = unless_ok (read_whole_refusal al o from) (count_octets o from ++ values_in o.entries) bytes done in
    let len = ap length u.1 in
    let small = small_of o sound in
    omega (arith, len, length-append (count_octets o from) (values_in o.entries), short_count o from, short_values o.entries sound.entries, small)

-- what is read from the object of an index
from_found : {X : Type 0} (table : Table) (index : ℕ) (read : Object → Result X ℕ) (x : X) (P : Type 0) → is_table table ≡ true →
    ((o : Object) → ObjectIs o → read o ≡ Ok x → P) → read_from read (object_of table index) ≡ Ok x → P
from_found table index read x P sound each done = by (object_of table index) refl done
  where
    by : (r : Option Object) → object_of table index ≡ r → read_from read r ≡ Ok x → P
    by None at done = absurd (cc)
    by (Some o) at done = each o (found_is table index o sound at) done

pub short_upload : (al : ℕ) (table : Table) (index sub : ℕ) (bytes : List ℕ) → is_table table ≡ true → upload al table index sub ≡ Ok bytes → length bytes ≤ 16384
short_upload al table index sub bytes sound done =
    from_found table index (λ o. upload_object al o sub) bytes (length bytes ≤ 16384) sound (λ o is read. short_object al o sub bytes is read) done

pub short_upload_all : (al : ℕ) (table : Table) (index from : ℕ) (bytes : List ℕ) → is_table table ≡ true → upload_all al table index from ≡ Ok bytes → length bytes ≤ 16384
short_upload_all al table index from bytes sound done =
    from_found table index (λ o. upload_whole al o from) bytes (length bytes ≤ 16384) sound (λ o is read. short_whole al o from bytes is read) done

short_list : (kind : ℕ) (table : Table) → length (list_octets kind table) ≤ 2 * length table
short_list kind [] = omega arith
short_list kind (row ∷ rows) = by (is_in_list kind row.1) (short_list kind rows)
  where
    by : (b : Bool) → length (list_octets kind rows) ≤ 2 * length rows → length (if b then little_bytes 2 row.0 ++ list_octets kind rows else list_octets kind rows) ≤ 2 * suc (length rows)
    by true h = omega arith
    by false h = omega arith

pub short_list_info : (table : Table) (kind : ℕ) (bytes : List ℕ) → is_table table ≡ true → list_info table kind ≡ Ok bytes → length bytes ≤ 16384
short_list_info table kind bytes sound done = by (nat_lt 5 kind) (kind == 0) done
  where
    few : length table ≤ 258
    few = leb-true (length table) 258 (table_is table sound).few

    by : (b c : Bool) → (let refused : Result (List ℕ) ℕ = Err 0x06010000 in if b then refused else if c then Ok (little_bytes 2 0 ++ counts_octets table) else Ok (little_bytes 2 kind ++ list_octets kind table)) ≡ Ok bytes → length bytes ≤ 16384
    by true c done = absurd (cc)
    by false true done = let e = ap length (ok_is (little_bytes 2 0 ++ counts_octets table) bytes done) in omega (arith, e)
    by false false done = let e = ap length (ok_is (little_bytes 2 kind ++ list_octets kind table) bytes done) in omega (arith, e, short_list kind table, few)

pub short_object_info : (table : Table) (index : ℕ) (bytes : List ℕ) → is_table table ≡ true → object_info table index ≡ Ok bytes → length bytes ≤ 16384
short_object_info table index bytes sound done =
    from_found table index (λ o. Ok (described index o)) bytes (length bytes ≤ 16384) sound
    (λ o is told. let e = ap length (ok_is (described index o) bytes told) in let named = named_of o is in omega (arith, e, named)) done

pub short_entry_info : (table : Table) (index sub : ℕ) (bytes : List ℕ) → is_table table ≡ true → entry_info table index sub ≡ Ok bytes → length bytes ≤ 16384
short_entry_info table index sub bytes sound done =
    from_found table index (λ o. entry_described index o sub) bytes (length bytes ≤ 16384) sound (λ o is told. by o is (is_count o sub) (entry_at o sub) refl told) done
  where
    by : (o : Object) → ObjectIs o → (b : Bool) (r : Option EntrySpec) → entry_at o sub ≡ r → (if b then Ok (entry_octets index 0 5 1 7 (codes "count")) else found_info index sub r) ≡ Ok bytes → length bytes ≤ 16384
    by o is true r at done = let e = ap length (ok_is (entry_octets index 0 5 1 7 (codes "count")) bytes done) in omega (arith, e)
    by o is false None at done = absurd (cc)
    by o is false (Some x) at done =
        let v = short_value x (all_get is_entry o.entries (entry_place o sub) x is.entries at) in
        let e = ap length (ok_is (entry_octets index sub x.kind x.most x.access x.name) bytes done) in
        omega (arith, e, v.2)
