-- The greatest sizes of a slave's entries are those of its plan.
use Rattle.std.proofs.Common.{◌≡◌, ◌≢◌, ℕ, zero, suc, ◌+◌, ◌-◌, ◌<◌, ◌≤◌, ◌&&◌, ◌==◌, nat_lt, Bool, true, false, cond, List, [], ◌∷◌, Option, Some, None, All, refl, sym, ap, subst, ◌∙◌, arith, eqb-true, eq-eqb, ltb-true, if◌then◌else◌}
use Rattle.std.specs.Prelude.{slice_index, unwrap_or, option_map, find, nat_eq, replicate, codes}
use Rattle.std.specs.List.{list_all}
use Rattle.std.specs.Map.{lookup}
use Rattle.std.proofs.lemmas.List.Elements.{All-head, All-tail}
use Rattle.std.proofs.lemmas.Bool.{ne_eqb, eqb-false}
use Rattle.master_hand.specs.of_object_dictionary.declared.entry.EntrySpec.{EntrySpec}
use Rattle.master_hand.specs.of_object_dictionary.declared.object.Object.{Object}
use Rattle.master_hand.specs.of_object_dictionary.Dictionary.{Table}
use Rattle.master_hand.specs.of_object_dictionary.Sound.{placed, own_table, emitter_object, is_rising}
use Rattle.slave_server.proofs.of_object_dictionary.Tests.{both}
use Rattle.master_hand.specs.of_segment_plan.declared.slave.ObjectSpec.{ObjectSpec}
use Rattle.master_hand.specs.of_segment_plan.declared.slave.SlaveSpec.{SlaveSpec}
use Rattle.master_hand.specs.of_segment_plan.Bound.{most_at, most_of, own_most, entry_most}
use Rattle.master_hand.specs.of_segment_plan.Sound.{kept, indexes, IsObject, IsSlave}
use Rattle.slave_server.specs.Spec.{with_objects, objects_of}
use Rattle.few_replies.specs.Shapes.{mosts, object_size, found_size, entry_size}

-- a size by its place
place_size : (entries : List EntrySpec) (place : ℕ) → slice_index (mosts entries) place ≡ most_at entries place
place_size [] place = refl
place_size (e ∷ es) zero = refl
place_size (e ∷ es) (suc place) = place_size es place

kept_size : (o : ObjectSpec) (sub : ℕ) → object_size sub (kept o) ≡ most_of o sub
kept_size o sub = by (o.code == 7) (sub == 0)
  where
    by : (a b : Bool) → (if a then slice_index (mosts o.entries) sub else if b then 1 else slice_index (mosts o.entries) (sub - 1)) ≡ (if a then most_at o.entries sub else if b then 1 else most_at o.entries (sub - 1))
    by true b = place_size o.entries sub
    by false true = refl
    by false false = place_size o.entries (sub - 1)

-- ---- an object more in a table

abbrev more : Bool → ℕ → ℕ
more b n = if b then n else 0

front_choice : (c : Bool) (sub : ℕ) (o : Object) (later : Option Object) → found_size sub (cond c (Some o) later) ≤ found_size sub later + more c (object_size sub o)
front_choice true sub o later = omega arith
front_choice false sub o later = omega arith

behind_choice : (b : Bool) (sub : ℕ) (row : Object) (x y : Option Object) (extra : ℕ) → found_size sub x ≤ found_size sub y + extra → found_size sub (cond b (Some row) x) ≤ found_size sub (cond b (Some row) y) + extra
behind_choice true sub row x y extra less = omega arith
behind_choice false sub row x y extra less = less

placed_size : (index sub i : ℕ) (o : Object) (table : Table) → found_size sub (lookup (nat_eq i) (placed index o table)) ≤ found_size sub (lookup (nat_eq i) table) + more (nat_eq i index) (object_size sub o)
placed_size index sub i o [] = front_choice (nat_eq i index) sub o None
placed_size index sub i o (row ∷ rows) = by (nat_lt index row.0) (placed_size index sub i o rows)
  where
    by : (a : Bool) → found_size sub (lookup (nat_eq i) (placed index o rows)) ≤ found_size sub (lookup (nat_eq i) rows) + more (nat_eq i index) (object_size sub o) →
        found_size sub (lookup (nat_eq i) (if a then (index, o) ∷ row ∷ rows else row ∷ placed index o rows)) ≤ found_size sub (lookup (nat_eq i) (row ∷ rows)) + more (nat_eq i index) (object_size sub o)
    by true later = front_choice (nat_eq i index) sub o (lookup (nat_eq i) (row ∷ rows))
    by false later = behind_choice (nat_eq i row.0) sub row.1 (lookup (nat_eq i) (placed index o rows)) (lookup (nat_eq i) rows) (more (nat_eq i index) (object_size sub o)) later

-- ---- all objects of a plan

-- the size that a plan's objects have at an index
abbrev plan_size : ℕ → ℕ → List ObjectSpec → ℕ
plan_size i sub os = unwrap_or (option_map (λ (o : ObjectSpec). most_of o sub) (find (λ (o : ObjectSpec). o.index == i) os)) 0

none_above : (index i sub : ℕ) (os : List ObjectSpec) → index ≡ i → list_all (nat_lt index) (indexes os) ≡ true → plan_size i sub os ≡ 0
none_above index i sub [] is all = refl
none_above index i sub (o ∷ os) is all =
    let now = both (nat_lt index o.index) (list_all (nat_lt index) (indexes os)) all in
    let less : index < o.index = ltb-true index o.index now.0 in
    let apart : (o.index == i) ≡ false = ne_eqb o.index i (λ e. omega (arith, e)) in
    ap (λ b. unwrap_or (option_map (λ (o : ObjectSpec). most_of o sub) (cond b (Some o) (find (λ (o : ObjectSpec). o.index == i) os))) 0) apart ∙ none_above index i sub os is now.1

objects_size : (i sub : ℕ) (os : List ObjectSpec) (table : Table) → is_rising (indexes os) ≡ true → found_size sub (lookup (nat_eq i) (with_objects os table)) ≤ found_size sub (lookup (nat_eq i) table) + plan_size i sub os
objects_size i sub [] table rising = omega arith
objects_size i sub (o ∷ os) table rising =
    let now = both (list_all (nat_lt o.index) (indexes os)) (is_rising (indexes os)) rising in
    let later = objects_size i sub os (placed o.index (kept o) table) now.1 in
    let here = placed_size o.index sub i (kept o) table in
    let size = kept_size o sub in
    by (o.index == i) refl (nat_eq i o.index) refl now.0 (omega (arith, later, here, ap (more (nat_eq i o.index)) size))
  where
    by : (b : Bool) → (o.index == i) ≡ b → (c : Bool) → nat_eq i o.index ≡ c → list_all (nat_lt o.index) (indexes os) ≡ true →
        found_size sub (lookup (nat_eq i) (with_objects os (placed o.index (kept o) table))) ≤ found_size sub (lookup (nat_eq i) table) + more c (most_of o sub) + plan_size i sub os →
        found_size sub (lookup (nat_eq i) (with_objects os (placed o.index (kept o) table))) ≤ found_size sub (lookup (nat_eq i) table)
        + unwrap_or (option_map (λ (o : ObjectSpec). most_of o sub) (cond b (Some o) (find (λ (o : ObjectSpec). o.index == i) os))) 0
    by true e true f above all = omega (arith, all, none_above o.index i sub os (eqb-true o.index i e) above)
    by true e false f above all = omega (arith, all, none_above o.index i sub os (eqb-true o.index i e) above)
    by false e true f above all = absurd (let same : (o.index == i) ≡ true = eq-eqb o.index i (sym (eqb-true i o.index f)) in let no : false ≡ true = sym e ∙ same in cc)
    by false e false f above all = omega (arith, all)

-- none of them has one of the profile's indexes
none_at : (own i sub : ℕ) (os : List ObjectSpec) → i ≡ own → ((o : ObjectSpec) → IsObject o → o.index ≢ own) → All IsObject os → plan_size i sub os ≡ 0
none_at own i sub [] is other all = refl
none_at own i sub (o ∷ os) is other all =
    let apart : (o.index == i) ≡ false = ne_eqb o.index i (λ e. other o (All-head IsObject o os all) (e ∙ is)) in
    ap (λ b. unwrap_or (option_map (λ (o : ObjectSpec). most_of o sub) (cond b (Some o) (find (λ (o : ObjectSpec). o.index == i) os))) 0) apart ∙ none_at own i sub os is other (All-tail IsObject o os all)

one_item : (most k : ℕ) → k ≢ 0 → slice_index (most ∷ []) k ≡ 0
one_item most zero some = absurd (some refl)
one_item most (suc k) some = refl

-- the profile's own
emitter_size : (name zeros : List ℕ) (most sub : ℕ) → object_size sub (emitter_object name zeros most) ≡ own_most most sub
emitter_size name zeros most sub = by (sub == 0) refl (sub == 1) refl
  where
    by : (a : Bool) → (sub == 0) ≡ a → (b : Bool) → (sub == 1) ≡ b → (if a then 1 else slice_index (most ∷ []) (sub - 1)) ≡ (if a then 1 else if b then most else 0)
    by true e b f = refl
    by false e true f = ap (slice_index (most ∷ [])) (let one : sub - 1 ≡ 0 = omega (arith, eqb-true sub 1 f) in one)
    by false e false f = one_item most (sub - 1) (λ z. let none = eqb-false sub 0 e in let one = eqb-false sub 1 f in omega (arith, none, one, z))

pub plan_entry : (s : SlaveSpec) → IsSlave s → s.«coe» ≡ true → (i sub : ℕ) → entry_size (objects_of s) i sub ≤ entry_most s i sub
plan_entry s is served i sub = rw served (by (nat_eq i 0x2F00) refl s.eoe (nat_eq i 0x2F01) refl (objects_size i sub s.objects (own_table s.eoe) is.rising))
  where
    packet : (b : Bool) → nat_eq i 0x2F01 ≡ b → entry_size (objects_of s) i sub ≤ found_size sub (cond b (Some (emitter_object (codes "Packet") (replicate 14 0) 1514)) None) + plan_size i sub s.objects →
        entry_size (objects_of s) i sub ≤ (if b then own_most 1514 sub else plan_size i sub s.objects)
    packet true f all = omega (arith, all, none_at 0x2F01 i sub s.objects (eqb-true i 0x2F01 f) (λ o x. x.no_packet) is.objects, emitter_size (codes "Packet") (replicate 14 0) 1514 sub)
    packet false f all = omega (arith, all)

    by : (a : Bool) → nat_eq i 0x2F00 ≡ a → (eo b : Bool) → nat_eq i 0x2F01 ≡ b →
        entry_size (objects_of s) i sub ≤ found_size sub (cond a (Some (emitter_object (codes "Emergency") (replicate 8 0) 8)) (lookup (nat_eq i) (if eo then (0x2F01, emitter_object (codes "Packet") (replicate 14 0) 1514) ∷ [] else []))) + plan_size i sub s.objects →
        entry_size (objects_of s) i sub ≤ (if true && a then own_most 8 sub else if true && eo && b then own_most 1514 sub else plan_size i sub s.objects)
    by true e eo b f all = omega (arith, all, none_at 0x2F00 i sub s.objects (eqb-true i 0x2F00 e) (λ o x. x.no_emergency) is.objects, emitter_size (codes "Emergency") (replicate 8 0) 8 sub)
    by false e true b f all = packet b f (subst (λ c. entry_size (objects_of s) i sub ≤ found_size sub (cond c (Some (emitter_object (codes "Packet") (replicate 14 0) 1514)) None) + plan_size i sub s.objects) f all)
    by false e false b f all = omega (arith, all)
