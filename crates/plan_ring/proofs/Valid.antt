-- WHAT A PLAN'S SLAVE ACTS ON is what the laws speak of: its objects, its files and its IDNs, as it is switched on.
use Rattle.std.proofs.Common.{◌≡◌, ℕ, zero, suc, ◌+◌, ◌-◌, ◌<◌, ◌≤◌, ◌&&◌, nat_le, nat_lt, Bool, true, false, List, [], ◌∷◌, ◌++◌, length, drop, get_or, All, Option, Some, None, refl, ap, sym, ◌∙◌, subst, arith, le-leb}
use Rattle.std.specs.Prelude.{if◌then◌else◌, is_some, IfSome}
use Rattle.std.specs.List.{list_all}
use Rattle.std.proofs.lemmas.Bool.{ne_eqb}
use Rattle.std.proofs.lemmas.List.Elements.{All-head, All-tail}
use Rattle.std.proofs.lemmas.List.Sums.{sum_by_push, sum_by-cons}
use Rattle.slave_server.specs.of_block_pool.Region.{blocks_for}
use Rattle.slave_server.specs.of_file_store.declared.file.FileSpec.{FileSpec}
use Rattle.slave_server.specs.of_file_store.Files as Store
use Rattle.slave_server.specs.of_idn_table.Idns as Idns
use Rattle.slave_server.proofs.of_idn_table.Placed.{idns_placed}
use Rattle.slave_server.specs.of_object_dictionary.Dictionary.{Table}
use Rattle.slave_server.specs.of_object_dictionary.Sound.{placed, own_table, is_table, is_rising, is_row, is_object, is_emitter, are_sized}
use Rattle.slave_server.proofs.of_object_dictionary.Placed.{table_placed}
use Rattle.slave_server.specs.of_segment_plan.declared.slave.ObjectSpec.{ObjectSpec}
use Rattle.slave_server.specs.of_idn_table.declared.spec.IdnSpec.{IdnSpec}
use Rattle.slave_server.specs.of_segment_plan.declared.slave.SlaveSpec.{SlaveSpec}
use Rattle.slave_server.specs.of_segment_plan.Sound as Plan
use Rattle.slave_server.specs.of_segment_plan.Sound.{kept, IsObject, IsFile, IsIdn, IsSlave, indexes, taken}
use Rattle.slave_server.specs.of_slave_model.Application.{station_valid}
use Rattle.slave_server.proofs.of_slave_model.Stations.{both}
use Rattle.slave_server.specs.of_slave_parts.Parts.{parts}
use Rattle.slave_server.specs.Spec.{with_objects, objects_of, with_files, files_of, with_idn, with_idns, idns_of, core_of}
use Rattle.slave_server.proofs.Objects as Taken

-- an item of a list, whatever stands for none
same_item : {X : Type 0} (xs : List X) (i : ℕ) (d e : X) → i < length xs → get_or xs i d ≡ get_or xs i e
same_item [] i d e lt = absurd (omega (arith, lt))
same_item (x ∷ xs) zero d e lt = refl
same_item (x ∷ xs) (suc i) d e lt = same_item xs i d e (omega (arith, lt))

none_left : {X : Type 0} (xs : List X) → drop (length xs) xs ≡ []
none_left [] = refl
none_left (x ∷ xs) = none_left xs

-- ---- objects
row_is : (o : ObjectSpec) → IsObject o → is_row (o.index, kept o) ≡ true
row_is o is = both (is_object (kept o)) (is_emitter o.index (kept o)) is.object
    (λ i. if ne_eqb o.index 0x2F00 is.no_emergency i then are_sized 8 8 o.entries else if ne_eqb o.index 0x2F01 is.no_packet i then are_sized 14 1514 o.entries else true)

own_valid : (eoe : Bool) → is_table (own_table eoe) ≡ true
own_valid true = refl
own_valid false = refl

objects_on : (objects : List ObjectSpec) (eoe : Bool) (d : ObjectSpec) → length objects ≤ 256 → All IsObject objects → (k i : ℕ) → i + k ≡ length objects → (table : Table) → Taken.HasTaken objects eoe i table → is_table table ≡ true →
    is_table (with_objects objects (own_table eoe)) ≡ true
objects_on objects eoe d few all zero i e table t valid =
    let last : drop i objects ≡ [] = ap (λ (n : ℕ). drop n objects) (let f : i ≡ length objects = omega (arith, e) in f) ∙ none_left objects in
    subst (λ (x : Table). is_table x ≡ true) (ap (λ os. with_objects os table) (sym last) ∙ t.rest) valid
objects_on objects eoe d few all (suc k) i e table t valid =
    let lt : i < length objects = omega (arith, e) in
    let o = get_or objects i d in
    let is : o ≡ get_or objects i o = same_item objects i d o lt in
    let absent = Taken.next_absent objects eoe i o lt is table t in
    let count : length table < 258 = (let c = t.count in omega (arith, c, lt, few)) in
    objects_on objects eoe d few all k (i + 1) (omega (arith, e)) (placed o.index (kept o) table) (Taken.takes_more objects eoe i o lt is table (placed o.index (kept o) table) refl t)
    (table_placed o.index (kept o) table valid absent count (row_is o (all i d lt)))

no_objects : (objects : List ObjectSpec) (eoe : Bool) → objects ≡ [] → is_table (with_objects objects (own_table eoe)) ≡ true
no_objects objects eoe e = subst (λ os. is_table (with_objects os (own_table eoe)) ≡ true) (sym e) (own_valid eoe)

objects_valid : (objects : List ObjectSpec) (eoe : Bool) → length objects ≤ 256 → All IsObject objects → is_rising (indexes objects) ≡ true → is_table (with_objects objects (own_table eoe)) ≡ true
objects_valid objects eoe few all rising = go objects refl
  where
    go : (os : List ObjectSpec) → objects ≡ os → is_table (with_objects objects (own_table eoe)) ≡ true
    go [] e = no_objects objects eoe e
    go (o ∷ os) e = objects_on objects eoe o few all (length objects) 0 (let f : 0 + length objects ≡ length objects = omega arith in f) (own_table eoe) (Taken.takes_first objects eoe rising all) (own_valid eoe)

-- ---- files
all_more : (P : Store.Filed → Bool) (xs : List Store.Filed) (x : Store.Filed) → list_all P xs ≡ true → P x ≡ true → list_all P (xs ++ x ∷ []) ≡ true
all_more P [] x all here = both (P x) true here refl
all_more P (y ∷ ys) x all here = let parts = split (P y) (list_all P ys) all in both (P y) (list_all P (ys ++ x ∷ [])) parts.0 (all_more P ys x parts.1 here)
  where
    split : (a b : Bool) → (a && b) ≡ true → (a ≡ true) × (b ≡ true)
    split true b e = (refl, e)
    split false b e = absurd (cc)

abbrev busy_few : Store.Filed → Bool
busy_few file = nat_le file.spec.busy 15

files_on : (fs : List (FileSpec × List ℕ)) (kept : Store.Kept) → kept.blocks ≤ 1024 → Store.taken kept.files + taken fs ≤ kept.blocks → list_all busy_few kept.files ≡ true → All IsFile fs → Store.is_valid (with_files fs kept) ≡ true
files_on [] kept few fits busy all =
    both (nat_le kept.blocks 1024 && nat_le (Store.taken kept.files) kept.blocks) (list_all busy_few kept.files)
    (both (nat_le kept.blocks 1024) (nat_le (Store.taken kept.files) kept.blocks) (le-leb kept.blocks 1024 few) (le-leb (Store.taken kept.files) kept.blocks (omega (arith, fits)))) busy
files_on (f ∷ fs) kept few fits busy all = go (is_some (Store.file_of kept f.0.name.items)) (λ k more_fits more_busy few_blocks. files_on fs k few_blocks more_fits more_busy (All-tail IsFile f fs all))
  where
    count : taken (f ∷ fs) ≡ blocks_for (length f.1) + taken fs
    count = sum_by-cons (λ (g : FileSpec × List ℕ). blocks_for (length g.1)) f fs

    more : Store.taken (kept.files ++ record { spec = f.0; octets = f.1 } ∷ []) ≡ Store.taken kept.files + blocks_for (length f.1)
    more = sum_by_push (λ (g : Store.Filed). blocks_for (length g.octets)) kept.files (record { spec = f.0; octets = f.1 })

    go : (b : Bool) → ((k : Store.Kept) → Store.taken k.files + taken fs ≤ k.blocks → list_all busy_few k.files ≡ true → k.blocks ≤ 1024 → Store.is_valid (with_files fs k) ≡ true) →
        Store.is_valid (with_files fs (if b then kept else record kept { files = kept.files ++ record { spec = f.0; octets = f.1 } ∷ [] })) ≡ true
    go true next = next kept (omega (arith, count, fits)) busy few
    go false next =
        next (record kept { files = kept.files ++ record { spec = f.0; octets = f.1 } ∷ [] }) (omega (arith, count, more, fits))
        (all_more busy_few kept.files (record { spec = f.0; octets = f.1 }) busy (le-leb f.0.busy 15 (All-head IsFile f fs all).busy)) few

-- ---- IDNs
text_is : (t : Option (List ℕ)) → IfSome t (λ text. length text ≤ 40) → Idns.is_text t ≡ true
text_is None few = refl
text_is (Some octets) few = le-leb (length octets) 40 few

idn_is : (i : IdnSpec) → IsIdn i → Idns.is_idn (Idns.idn_of i) ≡ true
idn_is i is =
    let k = Idns.idn_of i in
    both (Idns.is_text k.label && Idns.is_text k.unit && Idns.is_sized k && Idns.is_bound k k.min) (Idns.is_bound k k.max)
    (both (Idns.is_text k.label && Idns.is_text k.unit && Idns.is_sized k) (Idns.is_bound k k.min)
    (both (Idns.is_text k.label && Idns.is_text k.unit) (Idns.is_sized k) (both (Idns.is_text k.label) (Idns.is_text k.unit) (text_is i.label is.label) (text_is i.unit is.unit)) sized)
    (bound i.min is.min))
    (bound i.max is.max)
  where
    sized : (nat_le 1 i.least && nat_le i.most 4096 && nat_le i.least (length i.value) && nat_le (length i.value) i.most) ≡ true
    sized = both (nat_le 1 i.least && nat_le i.most 4096 && nat_le i.least (length i.value)) (nat_le (length i.value) i.most)
        (both (nat_le 1 i.least && nat_le i.most 4096) (nat_le i.least (length i.value)) (both (nat_le 1 i.least) (nat_le i.most 4096) (le-leb 1 i.least is.some_size) (le-leb i.most 4096 is.size_fits)) (le-leb i.least (length i.value) is.value_least))
        (le-leb (length i.value) i.most is.value_most)

    bound : (b : Option ℕ) → Plan.is_bound i.least i.most b ≡ true → Idns.is_bound (Idns.idn_of i) b ≡ true
    bound None e = refl
    bound (Some x) e = e

idns_on : (is_ : List IdnSpec) (table : Idns.Table) → Idns.are_idns table ≡ true → All IsIdn is_ → Idns.are_idns (with_idns is_ table) ≡ true
idns_on [] table valid all = valid
idns_on (i ∷ is_) table valid all = go (Idns.idn_at table (Idns.target i.drive i.number 0)) refl (λ t ok. idns_on is_ t ok (All-tail IsIdn i is_ all))
  where
    go : (found : Option Idns.Kept) → Idns.idn_at table (Idns.target i.drive i.number 0) ≡ found → ((t : Idns.Table) → Idns.are_idns t ≡ true → Idns.are_idns (with_idns is_ t) ≡ true) → Idns.are_idns (with_idns is_ (with_idn i table)) ≡ true
    go (Some k) e next = subst (λ (b : Bool). Idns.are_idns (with_idns is_ (if b then table else Idns.placed (i.drive, i.number) (Idns.idn_of i) table)) ≡ true) (sym (ap is_some e)) (next table valid)
    go None e next = subst (λ (b : Bool). Idns.are_idns (with_idns is_ (if b then table else Idns.placed (i.drive, i.number) (Idns.idn_of i) table)) ≡ true) (sym (ap is_some e))
        (next (Idns.placed (i.drive, i.number) (Idns.idn_of i) table) (idns_placed (i.drive, i.number) (Idns.idn_of i) table valid e (idn_is i (All-head IsIdn i is_ all))))

-- ---- ALL OF IT
pub core_is_valid : (s : SlaveSpec) → IsSlave s → station_valid parts (record { app = core_of s; frame = 0 }) ≡ true
core_is_valid s is =
    both (is_table (objects_of s) && (Store.is_valid (files_of s) && Idns.are_idns (idns_of s))) (nat_lt 0 16)
    (both (is_table (objects_of s)) (Store.is_valid (files_of s) && Idns.are_idns (idns_of s)) (objects_valid s.objects s.eoe is.few_objects is.objects is.rising)
    (both (Store.is_valid (files_of s)) (Idns.are_idns (idns_of s))
    (files_on s.files (record { files = []; blocks = s.blocks }) is.few_blocks (let f = is.fits in omega (arith, f)) refl is.files) (idns_on s.idns [] refl is.idns))) refl
