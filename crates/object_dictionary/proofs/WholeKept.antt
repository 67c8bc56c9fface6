-- Downloads by complete access leave objects and tables that a dictionary may have.
use Rattle.std.proofs.Common.{◌≡◌, ℕ, suc, ◌+◌, ◌≤◌, Bool, true, false, ◌&&◌, ◌==◌, not, nat_lt, List, [], ◌∷◌, length, take, drop, None, Some, Ok, refl, sym, ap, subst, ◌∙◌, arith, eqb-true, length-take, length-drop, if◌then◌else◌}
use Rattle.std.specs.List.{list_all}
use Rattle.object_dictionary.specs.declared.entry.EntrySpec.{EntrySpec}
use Rattle.object_dictionary.specs.declared.object.Object.{Object}
use Rattle.object_dictionary.specs.Entries.{is_entry, with_value, or_else, write_refusal, size_refusal}
use Rattle.object_dictionary.specs.Dictionary.{Table, is_variable, with_entries}
use Rattle.object_dictionary.specs.Whole.{sizes, are_fixed, is_whole, ahead, whole_size, with_values, check_whole, whole_refusal, download_whole, download_all, first_refusal, count_refusal, values_refusal}
use Rattle.object_dictionary.specs.Sound.{is_object, are_sized, is_emitter, is_row, is_table}
use Rattle.object_dictionary.proofs.Tests.{both, and_of}
use Rattle.object_dictionary.proofs.Kept.{Alike, row_alike, value_sound, both_none, unless_ok, sized, object_is, changed_kept}

len_values : (entries : List EntrySpec) (bytes : List ℕ) → length (with_values entries bytes) ≡ length entries
len_values [] bytes = refl
len_values (e ∷ es) bytes = ap suc (len_values es (drop e.most bytes))

size_values : (entries : List EntrySpec) (bytes : List ℕ) → sizes (with_values entries bytes) ≡ sizes entries
size_values [] bytes = refl
size_values (e ∷ es) bytes = ap (λ n. e.most + n) (size_values es (drop e.most bytes))

taken : (n : ℕ) (bytes : List ℕ) → n ≤ length bytes → length (take n bytes) ≡ n
taken n bytes h = length-take n bytes ∙ (omega arith)

sound_values : (entries : List EntrySpec) (bytes : List ℕ) → list_all is_entry entries ≡ true → are_fixed entries ≡ true → length bytes ≡ sizes entries → list_all is_entry (with_values entries bytes) ≡ true
sound_values [] bytes all fixed size = refl
sound_values (e ∷ es) bytes all fixed size =
    let s = both (is_entry e) (list_all is_entry es) all in
    let f = both (e.least == e.most) (are_fixed es) fixed in
    let same : e.least ≡ e.most = eqb-true e.least e.most f.0 in
    let len : length (take e.most bytes) ≡ e.most = taken e.most bytes (omega arith) in
    and_of (is_entry (with_value e (take e.most bytes))) (list_all is_entry (with_values es (drop e.most bytes)))
    (value_sound e (take e.most bytes) s.0 (omega arith) (omega arith))
    (sound_values es (drop e.most bytes) s.1 f.1 (length-drop e.most bytes ∙ (omega arith)))

sized_values : (least most : ℕ) (entries : List EntrySpec) (bytes : List ℕ) → are_sized least most entries ≡ true → are_sized least most (with_values entries bytes) ≡ true
sized_values least most [] bytes old = refl
sized_values least most (e ∷ es) bytes old =
    let s = both (e.least == least && e.most == most) (are_sized least most es) old in
    and_of (e.least == least && e.most == most) (are_sized least most (with_values es (drop e.most bytes))) s.0 (sized_values least most es (drop e.most bytes) s.1)

pub values_alike : (entries : List EntrySpec) (bytes : List ℕ) → list_all is_entry entries ≡ true → are_fixed entries ≡ true → length bytes ≡ sizes entries → Alike entries (with_values entries bytes)
values_alike entries bytes all fixed size = record {
  len = len_values entries bytes;
  size = size_values entries bytes;
  sound = sound_values entries bytes all fixed size;
  sized = λ least most old. sized_values least most entries bytes old;
}

-- an object that is not refused has fixed sizes, and a value of its size
pub whole_checked : (al : ℕ) (o : Object) (from size : ℕ) → check_whole al o from size ≡ None → (are_fixed o.entries ≡ true) × (size ≡ whole_size o from)
whole_checked al o from size none = by (is_whole o from) refl none
  where
    by : (b : Bool) → is_whole o from ≡ b → (if b then or_else (first_refusal (write_refusal al) o.entries) (size_refusal (whole_size o from) (whole_size o from) size) else Some 0x06010000) ≡ None →
        (are_fixed o.entries ≡ true) × (size ≡ whole_size o from)
    by true is none =
        let n = both_none (first_refusal (write_refusal al) o.entries) (size_refusal (whole_size o from) (whole_size o from) size) none in
        let s = sized (whole_size o from) (whole_size o from) size n.1 in
        ((both (nat_lt from 2 && not (is_variable o)) (are_fixed o.entries) is).1, omega (arith, s.0, s.1))
    by false is none = absurd (cc)

pub whole_kept : (al index : ℕ) (o new : Object) (from : ℕ) (bytes : List ℕ) → is_row (index, o) ≡ true → download_whole al o from bytes ≡ Ok new → is_row (index, new) ≡ true
whole_kept al index o new from bytes sound done =
    let u = unless_ok (whole_refusal al o from bytes) (with_entries o (with_values o.entries (drop (ahead from) bytes))) new done in
    let n = both_none (check_whole al o from (length bytes)) (or_else (count_refusal o from bytes) (values_refusal o.entries (drop (ahead from) bytes))) u.0 in
    let c = whole_checked al o from (length bytes) n.0 in
    let s = object_is o (both (is_object o) (is_emitter index o) sound).0 in
    let len : length (drop (ahead from) bytes) ≡ sizes o.entries = length-drop (ahead from) bytes ∙ (omega (arith, c.1)) in
    subst (λ x. is_row (index, x) ≡ true) (sym u.1) (row_alike index o (with_values o.entries (drop (ahead from) bytes)) sound (values_alike o.entries (drop (ahead from) bytes) s.entries c.0 len))

pub download_all_kept : (al : ℕ) (table new : Table) (index from : ℕ) (bytes : List ℕ) → is_table table ≡ true → download_all al table index from bytes ≡ Ok new → is_table new ≡ true
download_all_kept al table new index from bytes sound done =
    changed_kept table new index (λ o. download_whole al o from bytes) (λ o p here made. whole_kept al index o p from bytes here made) sound done
