-- The table of IDNs is a lawful one: elements are short, codes have 16 bits, and a write leaves IDNs.
use Rattle.std.proofs.Common.{◌≡◌, ℕ, ◌<◌, ◌≤◌, Bool, true, false, not, ◌&&◌, nat_lt, nat_le, List, [], ◌∷◌, length, Option, None, Some, Result, Ok, Err, refl, sym, ap, ◌∙◌, subst, arith, if◌then◌else◌, leb-true, le-leb, ltb-false}
use Rattle.std.specs.List.{list_all}
use Rattle.std.specs.Map.{lookup, set_value, keys_of}
use Rattle.std.proofs.lemmas.Map.{keys-set_value}
use Rattle.std.proofs.lemmas.Map.Entries.{lookup_head, lookup_tail}
use Rattle.byteorder.specs.Endian.{little_bytes}
use Rattle.byteorder.specs.Numbers.{length-bytes_low_first}
use Rattle.protocol_models.specs.Elements.{Target, AreLawful}
use Rattle.idn_table.specs.declared.element.Element.{Element}
use Rattle.idn_table.specs.declared.element.Element.TheVariants.{State, Name, Attribute, Unit as UnitOf, Minimum, Maximum, Value}
use Rattle.idn_table.specs.Idns.{Kept, Key, Table, is_text, is_sized, is_bound, is_idn, is_rising, is_row, are_idns, is_key, idn_at, element_of, there, bound_octets, element_read, read_by, value_code, is_under, is_over, write_code_by, write_code_at, stored, written_by, idn_elements}
use Rattle.idn_table.proofs.Placed.{both, both_are}
use Rattle.idn_table.proofs.Tables.{value_by, value_found}

-- a number in n octets has n of them
length_little : (n x : ℕ) → length (little_bytes n x) ≡ n
length_little n x = length-bytes_low_first 0 n x

abbrev some_kept : Kept → Option Kept
some_kept i = Some i

some_same : (i j : Kept) → some_kept i ≡ some_kept j → i ≡ j
some_same i j e = cc

-- what is found among IDNs is one
found_in : (test : Key → Bool) (rows : Table) (i : Kept) → list_all is_row rows ≡ true → lookup test rows ≡ Some i → is_idn i ≡ true
found_in test [] i all e = absurd (cc)
found_in test (x ∷ xs) i all e =
    let now = both_are (is_row x) (list_all is_row xs) all in
    by (test x.0) refl now.0 (λ rest. found_in test xs i now.1 rest)
  where
    by : (b : Bool) → test x.0 ≡ b → is_idn x.1 ≡ true → (lookup test xs ≡ Some i → is_idn i ≡ true) → is_idn i ≡ true
    by true here is go = subst (λ k. is_idn k ≡ true) (some_same x.1 i (sym (lookup_head test x xs here) ∙ e)) is
    by false here is go = go (sym (lookup_tail test x xs here) ∙ e)

found_is : (test : Key → Bool) (idns : Table) (i : Kept) → are_idns idns ≡ true → lookup test idns ≡ Some i → is_idn i ≡ true
found_is test idns i all e = found_in test idns i (both_are (is_rising (keys_of idns)) (list_all is_row idns) all).1 e

-- IDNs of which one has changed
set_rows : (test : Key → Bool) (rows : Table) (i : Kept) → is_idn i ≡ true → list_all is_row rows ≡ true → list_all is_row (set_value test rows i) ≡ true
set_rows test [] i is all = refl
set_rows test (x ∷ xs) i is all =
    let now = both_are (is_row x) (list_all is_row xs) all in by (test x.0) now.0 now.1 (set_rows test xs i is now.1)
  where
    by : (b : Bool) → is_idn x.1 ≡ true → list_all is_row xs ≡ true → list_all is_row (set_value test xs i) ≡ true →
        list_all is_row (if b then (x.0, i) ∷ xs else x ∷ set_value test xs i) ≡ true
    by true here rest done = both (is_idn i) (list_all is_row xs) is rest
    by false here rest done = both (is_idn x.1) (list_all is_row (set_value test xs i)) here done

set_are : (test : Key → Bool) (idns : Table) (i : Kept) → is_idn i ≡ true → are_idns idns ≡ true → are_idns (set_value test idns i) ≡ true
set_are test idns i is all =
    let now = both_are (is_rising (keys_of idns)) (list_all is_row idns) all in
    both (is_rising (keys_of (set_value test idns i))) (list_all is_row (set_value test idns i))
    (ap is_rising (keys-set_value test idns i) ∙ now.0) (set_rows test idns i is now.1)

-- the parts of what is_idn says
record Is (i : Kept) : Type 0 where
  label : is_text i.label ≡ true
  unit : is_text i.unit ≡ true
  least : nat_le 1 i.least ≡ true
  most : nat_le i.most 4096 ≡ true
  low : nat_le i.least (length i.value) ≡ true
  high : nat_le (length i.value) i.most ≡ true
  min : is_bound i i.min ≡ true
  max : is_bound i i.max ≡ true

parts : (i : Kept) → is_idn i ≡ true → Is i
parts i e =
    let a = split5 (is_text i.label) (is_text i.unit) (is_sized i) (is_bound i i.min) (is_bound i i.max) e in
    let b = split4 (nat_le 1 i.least) (nat_le i.most 4096) (nat_le i.least (length i.value)) (nat_le (length i.value) i.most) a.2 in
    record { label = a.0; unit = a.1; least = b.0; most = b.1; low = b.2; high = b.3; min = a.3; max = a.4 }
  where
    split5 : (a b c d f : Bool) → (a && b && c && d && f) ≡ true → (a ≡ true) × (b ≡ true) × (c ≡ true) × (d ≡ true) × (f ≡ true)
    split5 true true true true true e = (refl, refl, refl, refl, refl)
    split5 true true true true false e = absurd (cc)
    split5 true true true false f e = absurd (cc)
    split5 true true false d f e = absurd (cc)
    split5 true false c d f e = absurd (cc)
    split5 false b c d f e = absurd (cc)

    split4 : (a b c d : Bool) → (a && b && c && d) ≡ true → (a ≡ true) × (b ≡ true) × (c ≡ true) × (d ≡ true)
    split4 true true true true e = (refl, refl, refl, refl)
    split4 true true true false e = absurd (cc)
    split4 true true false d e = absurd (cc)
    split4 true false c d e = absurd (cc)
    split4 false b c d e = absurd (cc)

abbrev ok_octets : List ℕ → Result (List ℕ) ℕ
ok_octets l = Ok l

ok_same : (l m : List ℕ) → ok_octets l ≡ ok_octets m → l ≡ m
ok_same l m e = cc

short_like : (l m : List ℕ) → ok_octets l ≡ ok_octets m → length l ≤ 16384 → length m ≤ 16384
short_like l m e few = subst (λ k. length k ≤ 16384) (ok_same l m e) few

value_short : (i : Kept) → Is i → length i.value ≤ 16384
value_short i is = omega (arith, leb-true (length i.value) i.most is.high, leb-true i.most 4096 is.most)

there_short : (code : ℕ) (o : Option (List ℕ)) (bytes : List ℕ) → is_text o ≡ true → there code o ≡ Ok bytes → length bytes ≤ 16384
there_short code None bytes is e = absurd (cc)
there_short code (Some octets) bytes is e = short_like octets bytes e (omega (arith, leb-true (length octets) 40 is))

bound_short : (i : Kept) (code : ℕ) (o : Option ℕ) (bytes : List ℕ) → Is i → there code (bound_octets i o) ≡ Ok bytes → length bytes ≤ 16384
bound_short i code None bytes is e = absurd (cc)
bound_short i code (Some b) bytes is e = short_like (little_bytes (length i.value) b) bytes e (omega (arith, length_little (length i.value) b, value_short i is))

element_short : (i : Kept) (element : Element) (bytes : List ℕ) → Is i → element_read i element ≡ Ok bytes → length bytes ≤ 16384
element_short i State bytes is e = short_like (0 ∷ 0 ∷ []) bytes e (omega arith)
element_short i Name bytes is e = there_short 0x2001 i.label bytes is.label e
element_short i Attribute bytes is e = short_like (little_bytes 4 i.attribute) bytes e (omega (arith, length_little 4 i.attribute))
element_short i UnitOf bytes is e = there_short 0x4001 i.unit bytes is.unit e
element_short i Minimum bytes is e = bound_short i 0x5001 i.min bytes is e
element_short i Maximum bytes is e = bound_short i 0x6001 i.max bytes is e
element_short i Value bytes is e = short_like i.value bytes e (value_short i is)

read_short : (o : Option Kept) (element : Option Element) (bytes : List ℕ) → ((i : Kept) → o ≡ Some i → is_idn i ≡ true) → read_by o element ≡ Ok bytes → length bytes ≤ 16384
read_short None element bytes is e = absurd (cc)
read_short (Some i) None bytes is e = absurd (cc)
read_short (Some i) (Some element) bytes is e = element_short i element bytes (parts i (is i refl)) e

-- codes have 16 bits
abbrev err_read : ℕ → Result (List ℕ) ℕ
err_read code = Err code

few_like : (a b : ℕ) → err_read a ≡ err_read b → a < 65536 → b < 65536
few_like a b e few = let same : a ≡ b = cc in subst (λ c. c < 65536) same few

there_few : (a : ℕ) (o : Option (List ℕ)) (code : ℕ) → a < 65536 → there a o ≡ Err code → code < 65536
there_few a None code few e = few_like a code e few
there_few a (Some octets) code few e = absurd (cc)

element_few : (i : Kept) (element : Element) (code : ℕ) → element_read i element ≡ Err code → code < 65536
element_few i State code e = absurd (cc)
element_few i Name code e = there_few 0x2001 i.label code (omega arith) e
element_few i Attribute code e = absurd (cc)
element_few i UnitOf code e = there_few 0x4001 i.unit code (omega arith) e
element_few i Minimum code e = there_few 0x5001 (bound_octets i i.min) code (omega arith) e
element_few i Maximum code e = there_few 0x6001 (bound_octets i i.max) code (omega arith) e
element_few i Value code e = absurd (cc)

read_few : (o : Option Kept) (element : Option Element) (code : ℕ) → read_by o element ≡ Err code → code < 65536
read_few None element code e = few_like 0x1001 code e (omega arith)
read_few (Some i) None code e = few_like 0x1009 code e (omega arith)
read_few (Some i) (Some element) code e = element_few i element code e

abbrev some_code : ℕ → Option ℕ
some_code code = Some code

code_like : (a b : ℕ) → some_code a ≡ some_code b → a < 65536 → b < 65536
code_like a b e few = let same : a ≡ b = cc in subst (λ c. c < 65536) same few

value_few : (a b c d f : Bool) (code : ℕ) →
    (if a then Some 0x7004 else if b then Some 0x7002 else if c then Some 0x7003 else if d then Some 0x7006 else if f then Some 0x7007 else None) ≡ Some code → code < 65536
value_few true b c d f code e = code_like 0x7004 code e (omega arith)
value_few false true c d f code e = code_like 0x7002 code e (omega arith)
value_few false false true d f code e = code_like 0x7003 code e (omega arith)
value_few false false false true f code e = code_like 0x7006 code e (omega arith)
value_few false false false false true code e = code_like 0x7007 code e (omega arith)
value_few false false false false false code e = absurd (cc)

write_few : (o : Option Kept) (element : Option Element) (bytes : List ℕ) (code : ℕ) → write_code_by o element bytes ≡ Some code → code < 65536
write_few None element bytes code e = code_like 0x1001 code e (omega arith)
write_few (Some i) None bytes code e = code_like 0x1009 code e (omega arith)
write_few (Some i) (Some State) bytes code e = code_like 0x1009 code e (omega arith)
write_few (Some i) (Some Name) bytes code e = code_like 0x2004 code e (omega arith)
write_few (Some i) (Some Attribute) bytes code e = code_like 0x3004 code e (omega arith)
write_few (Some i) (Some UnitOf) bytes code e = code_like 0x4004 code e (omega arith)
write_few (Some i) (Some Minimum) bytes code e = code_like 0x5004 code e (omega arith)
write_few (Some i) (Some Maximum) bytes code e = code_like 0x6004 code e (omega arith)
write_few (Some i) (Some Value) bytes code e =
    value_few (not i.writable) (nat_lt (length bytes) i.least) (nat_lt i.most (length bytes)) (is_under i bytes) (is_over i bytes) code e

written_few : (changed : Table) (r : Option ℕ) (code : ℕ) → ((c : ℕ) → r ≡ Some c → c < 65536) → written_by changed r ≡ Err code → code < 65536
written_few changed None code few e = absurd (cc)
written_few changed (Some c) code few e = let same : c ≡ code = cc in subst (λ c. c < 65536) same (few c refl)

-- a value that isn't refused has a right length
abbrev first_code : Bool → Bool → Bool → Bool → Bool → Option ℕ
first_code a b c d f = if a then Some 0x7004 else if b then Some 0x7002 else if c then Some 0x7003 else if d then Some 0x7006 else if f then Some 0x7007 else None

sizes : (a b c d f : Bool) → first_code a b c d f ≡ None → (b ≡ false) × (c ≡ false)
sizes true b c d f e = absurd (cc)
sizes false true c d f e = absurd (cc)
sizes false false true d f e = absurd (cc)
sizes false false false d f e = (refl, refl)

five : (a b c d f : Bool) → a ≡ true → b ≡ true → c ≡ true → d ≡ true → f ≡ true → (a && b && c && d && f) ≡ true
five a b c d f p q r s t = rw (p, q, r, s, t) refl

four : (a b c d : Bool) → a ≡ true → b ≡ true → c ≡ true → d ≡ true → (a && b && c && d) ≡ true
four a b c d p q r s = rw (p, q, r, s) refl

bound_stays : (i : Kept) (bytes : List ℕ) (o : Option ℕ) → is_bound i o ≡ true → is_bound (record i { value = bytes }) o ≡ true
bound_stays i bytes None is = refl
bound_stays i bytes (Some b) is = is

value_is : (i : Kept) (bytes : List ℕ) → Is i → value_code i bytes ≡ None → is_idn (record i { value = bytes }) ≡ true
value_is i bytes is free =
    let size = sizes (not i.writable) (nat_lt (length bytes) i.least) (nat_lt i.most (length bytes)) (is_under i bytes) (is_over i bytes) free in
    let low = le-leb i.least (length bytes) (ltb-false (length bytes) i.least size.0) in
    let high = le-leb (length bytes) i.most (ltb-false i.most (length bytes) size.1) in
    five (is_text i.label) (is_text i.unit) (nat_le 1 i.least && nat_le i.most 4096 && nat_le i.least (length bytes) && nat_le (length bytes) i.most)
    (is_bound (record i { value = bytes }) i.min) (is_bound (record i { value = bytes }) i.max)
    is.label is.unit (four (nat_le 1 i.least) (nat_le i.most 4096) (nat_le i.least (length bytes)) (nat_le (length bytes) i.most) is.least is.most low high)
    (bound_stays i bytes i.min is.min) (bound_stays i bytes i.max is.max)

-- a value that nothing refuses, stored at an IDN that was found
pub set_stays : (idns : Table) (t : Target) (bytes : List ℕ) (i : Kept) → are_idns idns ≡ true → idn_at idns t ≡ Some i → write_code_at (idn_at idns t) t bytes ≡ None →
    are_idns (set_value (is_key (t.drive, t.idn)) idns (record i { value = bytes })) ≡ true
set_stays idns t bytes i all found free =
    set_are (is_key (t.drive, t.idn)) idns (record i { value = bytes })
    (value_is i bytes (parts i (found_is (is_key (t.drive, t.idn)) idns i all found)) (value_found idns t bytes i found free)) all

abbrev ok_table : Table → Result Table ℕ
ok_table idns = Ok idns

table_same : (a b : Table) → ok_table a ≡ ok_table b → a ≡ b
table_same a b e = cc

stored_are : (idns : Table) (t : Target) (o : Option Kept) (element : Option Element) (bytes : List ℕ) → are_idns idns ≡ true → ((i : Kept) → o ≡ Some i → is_idn i ≡ true) →
    write_code_by o element bytes ≡ None → are_idns (stored idns t o bytes) ≡ true
stored_are idns t None element bytes all is free = all
stored_are idns t (Some i) element bytes all is free =
    set_are (is_key (t.drive, t.idn)) idns (record i { value = bytes }) (value_is i bytes (parts i (is i refl)) (value_by i element bytes free)) all

written_are : (after changed : Table) (r : Option ℕ) → (r ≡ None → are_idns after ≡ true) → written_by after r ≡ Ok changed → are_idns changed ≡ true
written_are after changed None are e = subst (λ x. are_idns x ≡ true) (table_same after changed e) (are refl)
written_are after changed (Some c) are e = absurd (cc)

-- THE TABLE OF IDNS IS LAWFUL
pub idns_lawful : AreLawful idn_elements
idns_lawful = record {
  short = λ s t bytes fine e. read_short (idn_at s t) (element_of t.elements) bytes (λ i is. found_is (is_key (t.drive, t.idn)) s i fine is) e;
  read_code = λ s t code fine e. read_few (idn_at s t) (element_of t.elements) code e;
  write_code = λ s t bytes code fine e. written_few (stored s t (idn_at s t) bytes) (write_code_at (idn_at s t) t bytes) code
      (λ c is. write_few (idn_at s t) (element_of t.elements) bytes c is) e;
  stays = λ s changed t bytes fine e. written_are (stored s t (idn_at s t) bytes) changed (write_code_at (idn_at s t) t bytes)
      (λ free. stored_are s t (idn_at s t) (element_of t.elements) bytes fine (λ i is. found_is (is_key (t.drive, t.idn)) s i fine is) free) e;
}
