-- How many octets the services of a slave move at most.
use Rattle.std.proofs.Common.{◌≡◌, ℕ, zero, suc, ◌+◌, ◌-◌, ◌*◌, ◌≤◌, ◌&&◌, ◌==◌, nat_le, nat_lt, Bool, true, false, not, cond, List, [], ◌∷◌, ◌++◌, length, Option, Some, None, Result, Ok, Err, refl, arith, leb-true, length-append, slice_get, if◌then◌else◌}
use Rattle.std.specs.Prelude.{slice_index, unwrap_or, option_map, find, codes}
use Rattle.std.specs.List.{list_all}
use Rattle.std.specs.Map.{lookup}
use Rattle.std.proofs.lemmas.List.Sums.{sum_by-cons}
use Rattle.byteorder.specs.Endian.{little_bytes}
use Rattle.byteorder.specs.Numbers.{length-bytes_low_first}
use Rattle.slave_parts.specs.of_block_pool.Region.{blocks_for}
use Rattle.slave_parts.specs.of_object_dictionary.declared.entry.EntrySpec.{EntrySpec}
use Rattle.slave_parts.specs.of_object_dictionary.declared.object.Object.{Object}
use Rattle.slave_parts.specs.of_object_dictionary.Entries.{is_entry, unless, read_refusal}
use Rattle.slave_parts.specs.of_object_dictionary.Dictionary.{Table, object_of, is_count, entry_place, entry_at, upload_found, upload_object, read_from, upload}
use Rattle.slave_parts.specs.of_object_dictionary.Whole.{sizes, values_in, count_octets, read_whole_refusal, upload_whole, upload_all}
use Rattle.slave_parts.specs.of_object_dictionary.Information.{is_in_list, list_octets, counts_octets, list_info, described, entry_octets, found_info, entry_described}
use Rattle.slave_parts.specs.of_object_dictionary.Sound.{is_table}
use Rattle.slave_parts.proofs.of_object_dictionary.Tests.{both, all_get}
use Rattle.slave_parts.proofs.of_object_dictionary.Kept.{ObjectIs, found_is, small_of, named_of, table_is}
use Rattle.slave_parts.specs.of_file_store.Files as Store
use Rattle.slave_parts.specs.of_idn_table.declared.element.Element.{Element}
use Rattle.slave_parts.specs.of_idn_table.declared.element.Element.TheVariants.{State, Name, Attribute, Unit as UnitOf, Minimum, Maximum, Value}
use Rattle.slave_parts.specs.of_idn_table.Idns as Idns
use Rattle.slave_parts.specs.of_protocol_models.CoeModel.{value_length}
use Rattle.slave_parts.specs.of_protocol_models.Tables.{Target, Ask, list, object, entry}
use Rattle.slave_parts.specs.of_coe_server.ObjectTables.{reads, tells}
use Rattle.slave_parts.specs.of_protocol_models.FoeModel.{read_length}
use Rattle.few_replies.specs.Shapes.{mosts, object_size, found_size, entry_size, ask_octets}

-- ---- a value of a dictionary

unless_less : (refusal : Option ℕ) (value : List ℕ) → value_length (unless refusal value) ≤ length value
unless_less None value = omega arith
unless_less (Some code) value = omega arith

length_little : (n x : ℕ) → length (little_bytes n x) ≡ n
length_little n x = length-bytes_low_first 0 n x

-- what an entry's test says
value_fits : (e : EntrySpec) → is_entry e ≡ true → length e.value ≤ e.most
value_fits e is = leb-true (length e.value) e.most (both _ (nat_le (length e.value) e.most) (both _ (nat_le (length e.name) 40) is).0).1

name_fits : (e : EntrySpec) → is_entry e ≡ true → length e.name ≤ 40
name_fits e is = leb-true (length e.name) 40 (both _ (nat_le (length e.name) 40) is).1

value_at : (al : ℕ) (entries : List EntrySpec) (place : ℕ) → list_all is_entry entries ≡ true → value_length (upload_found al (slice_get entries place)) ≤ slice_index (mosts entries) place
value_at al [] place all = omega arith
value_at al (e ∷ es) zero all = let fits = value_fits e (both (is_entry e) (list_all is_entry es) all).0 in omega (arith, unless_less (read_refusal al e) e.value, fits)
value_at al (e ∷ es) (suc place) all = value_at al es place (both (is_entry e) (list_all is_entry es) all).1

upload_within : (al : ℕ) (o : Object) (sub : ℕ) → ObjectIs o → value_length (upload_object al o sub) ≤ object_size sub o
upload_within al o sub is = by (o.code == 7) (sub == 0)
  where
    by : (a b : Bool) → value_length (if not a && b then Ok (length o.entries ∷ []) else upload_found al (slice_get o.entries (if a then sub else sub - 1)))
        ≤ (if a then slice_index (mosts o.entries) sub else if b then 1 else slice_index (mosts o.entries) (sub - 1))
    by true true = value_at al o.entries sub is.entries
    by true false = value_at al o.entries sub is.entries
    by false true = omega arith
    by false false = value_at al o.entries (sub - 1) is.entries

values_within : (entries : List EntrySpec) → list_all is_entry entries ≡ true → length (values_in entries) ≤ sizes entries
values_within [] all = omega arith
values_within (e ∷ es) all =
    let now = both (is_entry e) (list_all is_entry es) all in
    omega (arith, length-append e.value (values_in es), value_fits e now.0, values_within es now.1)

count_within : (o : Object) (from : ℕ) → length (count_octets o from) ≤ 2
count_within o from = by (from == 0)
  where
    by : (b : Bool) → length (if b then length o.entries ∷ 0 ∷ [] else []) ≤ 2
    by true = omega arith
    by false = omega arith

whole_within : (al : ℕ) (o : Object) (from : ℕ) → ObjectIs o → value_length (upload_whole al o from) ≤ 16002
whole_within al o from is =
    omega (arith, unless_less (read_whole_refusal al o from) (count_octets o from ++ values_in o.entries), length-append (count_octets o from) (values_in o.entries), count_within o from, values_within o.entries is.entries, small_of o is)

-- what is read of an object that is there, or not
from_within : (table : Table) (index : ℕ) (read : Object → Result (List ℕ) ℕ) (most : Option Object → ℕ) → is_table table ≡ true → ((o : Object) → ObjectIs o → value_length (read o) ≤ most (Some o)) →
    value_length (read_from read (object_of table index)) ≤ most (object_of table index)
from_within table index read most sound each = by (object_of table index) refl
  where
    by : (found : Option Object) → object_of table index ≡ found → value_length (read_from read found) ≤ most found
    by None e = omega arith
    by (Some o) e = each o (found_is table index o sound e)

pub read_within : (al : ℕ) (table : Table) (t : Target) → is_table table ≡ true → value_length (reads al table t) ≤ (if t.all then 16002 else entry_size table t.index t.sub)
read_within al table t sound = by t.all
  where
    by : (b : Bool) → value_length (if b then upload_all al table t.index t.sub else upload al table t.index t.sub) ≤ (if b then 16002 else entry_size table t.index t.sub)
    by true = from_within table t.index (λ o. upload_whole al o t.sub) (λ found. 16002) sound (λ o is. whole_within al o t.sub is)
    by false = from_within table t.index (λ o. upload_object al o t.sub) (found_size t.sub) sound (λ o is. upload_within al o t.sub is)

-- ---- what is told of objects

list_within : (kind : ℕ) (table : Table) → length (list_octets kind table) ≤ 2 * length table
list_within kind [] = omega arith
list_within kind (row ∷ rows) = by (is_in_list kind row.1) (list_within kind rows)
  where
    by : (b : Bool) → length (list_octets kind rows) ≤ 2 * length rows → length (if b then little_bytes 2 row.0 ++ list_octets kind rows else list_octets kind rows) ≤ 2 * suc (length rows)
    by true rest = omega (arith, rest, length-append (little_bytes 2 row.0) (list_octets kind rows), length_little 2 row.0)
    by false rest = omega (arith, rest)

lists_within : (table : Table) (kind : ℕ) → is_table table ≡ true → value_length (list_info table kind) ≤ 1024
lists_within table kind sound = by (nat_lt 5 kind) (kind == 0)
  where
    by : (a b : Bool) → value_length (if a then Err 0x06010000 else if b then Ok (little_bytes 2 0 ++ counts_octets table) else Ok (little_bytes 2 kind ++ list_octets kind table)) ≤ 1024
    by true b = omega arith
    by false true = omega arith
    by false false = omega (arith, length-append (little_bytes 2 kind) (list_octets kind table), length_little 2 kind, list_within kind table, leb-true (length table) 258 (table_is table sound).few)

object_within : (index : ℕ) (o : Object) → ObjectIs o → length (described index o) ≤ 64
object_within index o is = omega (arith, named_of o is)

found_within : (index sub : ℕ) (o : Object) (place : ℕ) → ObjectIs o → value_length (found_info index sub (slice_get o.entries place)) ≤ 64
found_within index sub o place is = by (slice_get o.entries place) refl
  where
    by : (found : Option EntrySpec) → slice_get o.entries place ≡ found → value_length (found_info index sub found) ≤ 64
    by None e = omega arith
    by (Some x) e = omega (arith, name_fits x (all_get is_entry o.entries place x is.entries e))

entry_within : (index : ℕ) (o : Object) (sub : ℕ) → ObjectIs o → value_length (entry_described index o sub) ≤ 64
entry_within index o sub is = by (is_count o sub)
  where
    by : (b : Bool) → value_length (if b then Ok (entry_octets index 0 5 1 7 (codes "count")) else found_info index sub (entry_at o sub)) ≤ 64
    by true = omega arith
    by false = found_within index sub o (entry_place o sub) is

pub told_within : (table : Table) (a : Ask) → is_table table ≡ true → value_length (tells table a) ≤ ask_octets a
told_within table (list kind) sound = lists_within table kind sound
told_within table (object index) sound = from_within table index (λ o. Ok (described index o)) (λ found. 64) sound (λ o is. object_within index o is)
told_within table (entry index sub info) sound = from_within table index (λ o. entry_described index o sub) (λ found. 64) sound (λ o is. entry_within index o sub is)

-- ---- a file

file_within : (test : Store.Filed → Bool) (files : List Store.Filed) → length (unwrap_or (option_map (λ (file : Store.Filed). file.octets) (find test files)) []) ≤ 128 * Store.taken files
file_within test [] = omega arith
file_within test (file ∷ files) = by (test file) (file_within test files)
  where
    sum : Store.taken (file ∷ files) ≡ blocks_for (length file.octets) + Store.taken files
    sum = sum_by-cons (λ (f : Store.Filed). blocks_for (length f.octets)) file files

    by : (b : Bool) → length (unwrap_or (option_map (λ (file : Store.Filed). file.octets) (find test files)) []) ≤ 128 * Store.taken files →
        length (unwrap_or (option_map (λ (file : Store.Filed). file.octets) (cond b (Some file) (find test files))) []) ≤ 128 * Store.taken (file ∷ files)
    by true rest = omega (arith, sum)
    by false rest = omega (arith, sum, rest)

pub get_within : (kept : Store.Kept) (name : List ℕ) (found : Option ℕ) → Store.is_valid kept ≡ true → read_length found (Store.get kept name) ≤ 128 * kept.blocks
get_within kept name None valid =
    let fits = leb-true (Store.taken kept.files) kept.blocks (both _ (nat_le (Store.taken kept.files) kept.blocks) (both _ _ valid).0).1 in
    omega (arith, file_within (Store.is_named name) kept.files, fits)
get_within kept name (Some code) valid = omega arith

-- ---- an element

-- what an IDN's test says
record Is (i : Idns.Kept) : Type 0 where
  label : Idns.is_text i.label ≡ true
  unit : Idns.is_text i.unit ≡ true
  most : length i.value ≤ 4096

idn_parts : (i : Idns.Kept) → Idns.is_idn i ≡ true → Is i
idn_parts i e =
    let a = both _ (Idns.is_bound i i.max) e in
    let b = both _ (Idns.is_bound i i.min) a.0 in
    let c = both (Idns.is_text i.label && Idns.is_text i.unit) (Idns.is_sized i) b.0 in
    let d = both (Idns.is_text i.label) (Idns.is_text i.unit) c.0 in
    let s = both _ (nat_le (length i.value) i.most) c.1 in
    let t = both _ (nat_le i.least (length i.value)) s.0 in
    let u = both (nat_le 1 i.least) (nat_le i.most 4096) t.0 in
    record { label = d.0; unit = d.1; most = omega (arith, leb-true (length i.value) i.most s.1, leb-true i.most 4096 u.1) }

there_within : (code : ℕ) (o : Option (List ℕ)) → Idns.is_text o ≡ true → value_length (Idns.there code o) ≤ 4096
there_within code None is = omega arith
there_within code (Some octets) is = omega (arith, leb-true (length octets) 40 is)

bound_within : (i : Idns.Kept) (code : ℕ) (o : Option ℕ) → Is i → value_length (Idns.there code (Idns.bound_octets i o)) ≤ 4096
bound_within i code None is = omega arith
bound_within i code (Some b) is = omega (arith, length_little (length i.value) b, is.most)

kept_within : (i : Idns.Kept) (e : Element) → Is i → value_length (Idns.element_read i e) ≤ 4096
kept_within i State is = omega arith
kept_within i Name is = there_within 0x2001 i.label is.label
kept_within i Attribute is = omega (arith, length_little 4 i.attribute)
kept_within i UnitOf is = there_within 0x4001 i.unit is.unit
kept_within i Minimum is = bound_within i 0x5001 i.min is
kept_within i Maximum is = bound_within i 0x6001 i.max is
kept_within i Value is = omega (arith, is.most)

by_within : (i : Idns.Kept) (e : Option Element) → Is i → value_length (Idns.read_by (Some i) e) ≤ 4096
by_within i None is = omega arith
by_within i (Some e) is = kept_within i e is

rows_within : (test : Idns.Key → Bool) (rows : Idns.Table) (e : Option Element) → list_all Idns.is_row rows ≡ true → value_length (Idns.read_by (lookup test rows) e) ≤ 4096
rows_within test [] e all = omega arith
rows_within test (row ∷ rows) e all = by (test row.0) (rows_within test rows e now.1)
  where
    now : (Idns.is_row row ≡ true) × (list_all Idns.is_row rows ≡ true)
    now = both (Idns.is_row row) (list_all Idns.is_row rows) all

    by : (b : Bool) → value_length (Idns.read_by (lookup test rows) e) ≤ 4096 → value_length (Idns.read_by (cond b (Some row.1) (lookup test rows)) e) ≤ 4096
    by true rest = by_within row.1 e (idn_parts row.1 now.0)
    by false rest = rest

pub element_within : (idns : Idns.Table) (t : _) → Idns.are_idns idns ≡ true → value_length (Idns.read_at idns t) ≤ 4096
element_within idns t valid = rows_within (Idns.is_key (t.drive, t.idn)) idns (Idns.element_of t.elements) (both _ (list_all Idns.is_row idns) valid).1
