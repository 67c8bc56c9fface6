-- An object dictionary keeps the laws of a server's tables.
use Rattle.std.proofs.Common.{◌≡◌, ℕ, ◌<◌, ◌≤◌, Bool, true, false, ◌&&◌, ◌||◌, ◌==◌, not, List, length, Option, None, Some, Result, Ok, Err, refl, sym, ap, subst, ◌∙◌, arith, eqb-true, if◌then◌else◌}
use Rattle.protocol_models.specs.of_exchange_model.Lifted.{EachOf}
use Rattle.object_dictionary.specs.declared.entry.EntrySpec.{EntrySpec}
use Rattle.object_dictionary.specs.declared.object.Object.{Object}
use Rattle.object_dictionary.specs.Entries.{Stores, or_else, unless, check_entry, bound_refusal, download_entry, with_value}
use Rattle.object_dictionary.specs.Dictionary.{Table, object_of, is_count, entry_place, entry_at, result_map, check_found, check_object, checked, check_download, download_found, download_object, changed, download}
use Rattle.object_dictionary.specs.Whole.{check_whole, check_download_all, download_whole, download_all}
use Rattle.object_dictionary.specs.Sound.{is_object, are_sized, is_row, is_table}
use Rattle.object_dictionary.proofs.Tests.{both, all_get}
use Rattle.object_dictionary.proofs.Kept.{entry_kept, map_ok, row_of, table_is, download_kept}
use Rattle.object_dictionary.proofs.WholeKept.{download_all_kept}
use Rattle.protocol_models.specs.Tables.{Target, Ask, list, object, entry, AreLawful}
use Rattle.protocol_models.specs.CoeServer.{Emission, emergency, packet, emission_of}
use Rattle.protocol_models.specs.CoeOctets.{AreSpelled, is_fragment}
use Rattle.coe_server.specs.ObjectTables.{checks, stores, reads, tells, tables_with}
use Rattle.coe_server.specs.Serving.{IsFitting}
use Rattle.coe_server.proofs.ObjectsAnswer.{small_check, small_check_all, small_download, small_download_all, small_upload, small_upload_all, small_list, small_object_info, small_entry_info, short_upload, short_upload_all, short_list_info, short_object_info, short_entry_info}

-- ---- what the size refuses is refused

refused_by : {X : Type 0} (a b : Option ℕ) (x : X) (code : ℕ) → a ≡ Some code → unless (or_else a b) x ≡ Err code
refused_by a b x code e = rw e refl

mapped : {X Y : Type 0} (f : X → Y) (r : Result X ℕ) (code : ℕ) → r ≡ Err code → result_map f r ≡ Err code
mapped f r code e = rw e refl

some_err : {X : Type 0} (x code : ℕ) → Some x ≡ Some code → let refused : Result X ℕ = Err x in refused ≡ Err code
some_err x code e = let same : x ≡ code = cc in ap (λ n. Err n) same

early_object : (al : ℕ) (o : Object) (sub : ℕ) (bytes : List ℕ) (code : ℕ) → check_object al o sub (length bytes) ≡ Some code → download_object al o sub bytes ≡ Err code
early_object al o sub bytes code e = by (is_count o sub) (entry_at o sub) e
  where
    by : (b : Bool) (r : Option EntrySpec) → (if b then Some 0x06010002 else check_found al (length bytes) r) ≡ Some code → (if b then Err 0x06010002 else download_found al o (entry_place o sub) bytes r) ≡ Err code
    by true r e = some_err 0x06010002 code e
    by false None e = some_err 0x06090011 code e
    by false (Some x) e = mapped _ (download_entry al x bytes) code (refused_by (check_entry al x (length bytes)) (bound_refusal x bytes) (with_value x bytes) code e)

early_whole : (al : ℕ) (o : Object) (from : ℕ) (bytes : List ℕ) (code : ℕ) → check_whole al o from (length bytes) ≡ Some code → download_whole al o from bytes ≡ Err code
early_whole al o from bytes code e = refused_by (check_whole al o from (length bytes)) _ _ code e

early_table : (table : Table) (index : ℕ) (check : Object → Option ℕ) (change : Object → Result Object ℕ) (code : ℕ) → ((o : Object) → check o ≡ Some code → change o ≡ Err code) →
    (r : Option Object) → checked check r ≡ Some code → changed table index change r ≡ Err code
early_table table index check change code each None e = some_err 0x06020000 code e
early_table table index check change code each (Some o) e = mapped _ (change o) code (each o e)

early : (al : ℕ) (table : Table) (t : Target) (bytes : List ℕ) (code : ℕ) → checks al table t (length bytes) ≡ Some code → stores al table t bytes ≡ Err code
early al table t bytes code e = by t.all e
  where
    by : (b : Bool) → (if b then check_download_all al table t.index t.sub (length bytes) else check_download al table t.index t.sub (length bytes)) ≡ Some code →
        (if b then download_all al table t.index t.sub bytes else download al table t.index t.sub bytes) ≡ Err code
    by true e = early_table table t.index _ _ code (λ o refused. early_whole al o t.sub bytes code refused) (object_of table t.index) e
    by false e = early_table table t.index _ _ code (λ o refused. early_object al o t.sub bytes code refused) (object_of table t.index) e

-- ---- the laws

pub either : {X : Type 0} (P : X → Type 0) (b : Bool) (x y : X) → P x → P y → P (if b then x else y)
either P true x y p q = p
either P false x y p q = q

short : (al : ℕ) (table : Table) (t : Target) (bytes : List ℕ) → is_table table ≡ true → reads al table t ≡ Ok bytes → length bytes ≤ 16384
short al table t bytes sound = either (λ (r : Result (List ℕ) ℕ). r ≡ Ok bytes → length bytes ≤ 16384) t.all _ _ (short_upload_all al table t.index t.sub bytes sound) (short_upload al table t.index t.sub bytes sound)

short_told : (table : Table) (a : Ask) (bytes : List ℕ) → is_table table ≡ true → tells table a ≡ Ok bytes → length bytes ≤ 16384
short_told table (list kind) bytes sound done = short_list_info table kind bytes sound done
short_told table (object index) bytes sound done = short_object_info table index bytes sound done
short_told table (entry index sub info) bytes sound done = short_entry_info table index sub bytes sound done

stays : (al : ℕ) (table changed_table : Table) (t : Target) (bytes : List ℕ) → is_table table ≡ true → stores al table t bytes ≡ Ok changed_table → is_table changed_table ≡ true
stays al table changed_table t bytes sound =
    either (λ (r : Result Table ℕ). r ≡ Ok changed_table → is_table changed_table ≡ true) t.all _ _ (download_all_kept al table changed_table t.index t.sub bytes sound) (download_kept al table changed_table t.index t.sub bytes sound)

pub lawful : (cut : List ℕ → List (List ℕ)) (al : ℕ) → AreLawful (tables_with cut al)
lawful cut al = record {
  early = λ s t bytes code sound e. early al s t bytes code e;
  short = short al;
  short_info = short_told;
  stays = stays al;
  stays_cut = λ s octets sound. sound;
}

-- ---- emissions

-- the octets that a download to the first entry of an emitter brings
emitted_size : (least most al index : ℕ) (o new : Object) (sub : ℕ) (bytes : List ℕ) → are_sized least most o.entries ≡ true → download_object al o sub bytes ≡ Ok new → (least ≤ length bytes) × (length bytes ≤ most)
emitted_size least most al index o new sub bytes all done = by (is_count o sub) (entry_at o sub) refl done
  where
    by : (b : Bool) (r : Option EntrySpec) → entry_at o sub ≡ r → (if b then Err 0x06010002 else download_found al o (entry_place o sub) bytes r) ≡ Ok new → (least ≤ length bytes) × (length bytes ≤ most)
    by true r at done = absurd (cc)
    by false None at done = absurd (cc)
    by false (Some e) at done =
        let (changed_entry, stored, is) = map_ok _ (download_entry al e bytes) new done in
        let k = entry_kept al e changed_entry bytes stored in
        let s = both (e.least == least) (e.most == most) (all_get (λ (x : EntrySpec). x.least == least && x.most == most) o.entries (entry_place o sub) e all at) in
        let a = eqb-true e.least least s.0 in
        let b = eqb-true e.most most s.1 in
        (omega (arith, a, k.1), omega (arith, b, k.2))

-- a download that was stored had an object of its index
found_download : (al : ℕ) (table new : Table) (index sub : ℕ) (bytes : List ℕ) → is_table table ≡ true → download al table index sub bytes ≡ Ok new →
    (o : Object) × (p : Object) × (is_row (index, o) ≡ true) × (download_object al o sub bytes ≡ Ok p)
found_download al table new index sub bytes sound done = by (object_of table index) refl done
  where
    by : (r : Option Object) → object_of table index ≡ r → changed table index (λ o. download_object al o sub bytes) r ≡ Ok new → (o : Object) × (p : Object) × (is_row (index, o) ≡ true) × (download_object al o sub bytes ≡ Ok p)
    by None at done = absurd (cc)
    by (Some o) at done = let (p, made, is) = map_ok _ (download_object al o sub bytes) new done in (o, p, row_of table index o (table_is table sound).rows at, made)

emergency_size : (al : ℕ) (table new : Table) (sub : ℕ) (bytes : List ℕ) → is_table table ≡ true → download al table 0x2F00 sub bytes ≡ Ok new → length bytes ≡ 8
emergency_size al table new sub bytes sound done =
    let (o, p, row, made) = found_download al table new 0x2F00 sub bytes sound done in
    let s = emitted_size 8 8 al 0x2F00 o p sub bytes (both (is_object o) (are_sized 8 8 o.entries) row).1 made in
    omega (arith, s.0, s.1)

packet_size : (al : ℕ) (table new : Table) (sub : ℕ) (bytes : List ℕ) → is_table table ≡ true → download al table 0x2F01 sub bytes ≡ Ok new → length bytes ≤ 1514
packet_size al table new sub bytes sound done =
    let (o, p, row, made) = found_download al table new 0x2F01 sub bytes sound done in
    (emitted_size 14 1514 al 0x2F01 o p sub bytes (both (is_object o) (are_sized 14 1514 o.entries) row).1 made).1

-- what a stored download emits fits its mail
pub fitting : (al : ℕ) (table new : Table) (t : Target) (bytes : List ℕ) (eoe : Bool) → is_table table ≡ true → stores al table t bytes ≡ Ok new → IsFitting (emission_of eoe t bytes)
fitting al table new t bytes eoe sound done = by t.all (t.sub == 1) (t.index == 0x2F00) eoe (t.index == 0x2F01) refl refl done
  where
    by : (a s e : Bool) (eoe : Bool) (p : Bool) → (t.index == 0x2F00) ≡ e → (t.index == 0x2F01) ≡ p → (if a then download_all al table t.index t.sub bytes else download al table t.index t.sub bytes) ≡ Ok new →
        IsFitting (if a || not s then None else if e then Some (emergency bytes) else if eoe && p then Some (packet bytes) else None)
    by true s e eoe p ei pi done = tt
    by false false e eoe p ei pi done = tt
    by false true true eoe p ei pi done = emergency_size al table new t.sub bytes sound (subst (λ i. download al table i t.sub bytes ≡ Ok new) (eqb-true t.index 0x2F00 ei) done)
    by false true false true true ei pi done = packet_size al table new t.sub bytes sound (subst (λ i. download al table i t.sub bytes ≡ Ok new) (eqb-true t.index 0x2F01 pi) done)
    by false true false true false ei pi done = tt
    by false true false false p ei pi done = tt

pub fits_stored : (al : ℕ) (old new : Table) (t : Target) (bytes : List ℕ) (r : Option ℕ) → t.all ≡ false → is_table old ≡ true → Stores (download al old t.index t.sub bytes) r old new → r ≡ None →
    (eoe : Bool) → IsFitting (emission_of eoe t bytes)
fits_stored al old new t bytes None one sound stored none eoe =
    fitting al old new t bytes eoe sound (subst (λ b. (if b then download_all al old t.index t.sub bytes else download al old t.index t.sub bytes) ≡ Ok new) (sym one) stored)
fits_stored al old new t bytes (Some code) one sound stored none eoe = absurd (cc)

eight : (r : Option Emission) (octets : List ℕ) → IsFitting r → r ≡ Some (emergency octets) → length octets ≡ 8
eight None octets fits e = absurd (cc)
eight (Some (emergency bytes)) octets fits e = let same : bytes ≡ octets = cc in ap length (sym same) ∙ fits
eight (Some (packet bytes)) octets fits e = absurd (cc)

pub spelled : (cut : List ℕ → List (List ℕ)) (al : ℕ) → ((octets : List ℕ) → EachOf (λ body. is_fragment body ≡ true) (cut octets)) → AreSpelled (tables_with cut al)
spelled cut al fragments = record {
  check_code = λ s t size code sound. either (λ (r : Option ℕ). r ≡ Some code → code < 4294967296) t.all _ _ (small_check_all al s t.index t.sub size code) (small_check al s t.index t.sub size code);
  download_code = λ s t bytes code sound. either (λ (r : Result Table ℕ). r ≡ Err code → code < 4294967296) t.all _ _ (small_download_all al s t.index t.sub bytes code) (small_download al s t.index t.sub bytes code);
  upload_code = λ s t code sound. either (λ (r : Result (List ℕ) ℕ). r ≡ Err code → code < 4294967296) t.all _ _ (small_upload_all al s t.index t.sub code) (small_upload al s t.index t.sub code);
  info_code = λ s a code sound. told_code s a code;
  cut = λ s octets. fragments octets;
  eight = λ s changed_table eoe t bytes octets sound done e. eight (emission_of eoe t bytes) octets (fitting al s changed_table t bytes eoe sound done) e;
}
  where
    told_code : (s : Table) (a : Ask) (code : ℕ) → tells s a ≡ Err code → code < 4294967296
    told_code s (list kind) code e = small_list s kind code e
    told_code s (object index) code e = small_object_info s index code e
    told_code s (entry index sub info) code e = small_entry_info s index sub code e
