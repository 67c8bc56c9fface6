-- The objects of a slave taken one by one, their indexes rising.
use Rattle.std.proofs.Common.{◌≡◌, ◌≢◌, ℕ, ◌+◌, ◌<◌, ◌≤◌, Bool, true, false, List, [], ◌∷◌, length, nat_eq, nat_lt, if◌then◌else◌, All, None, Some, drop, get_or, subst, refl, ap, sym, ◌∙◌, arith}
use Rattle.std.specs.List.{list_all}
use Rattle.std.proofs.lemmas.List.Elements.{All-nil, All-cons, All-head, All-tail, All-weaker}
use Rattle.std.proofs.lemmas.List.{drop_more}
use Rattle.std.proofs.lemmas.Grind.{common_steps}
use Rattle.segment_plan.specs.of_object_dictionary.declared.object.Object.{Object}
use Rattle.segment_plan.specs.of_object_dictionary.Dictionary.{Table, object_of}
use Rattle.segment_plan.specs.of_object_dictionary.Sound.{placed, is_rising, own_table}
use Rattle.segment_plan.specs.declared.slave.ObjectSpec.{ObjectSpec}
use Rattle.segment_plan.specs.Sound.{kept, IsObject, indexes}
use Rattle.slave_server.specs.Spec.{with_objects}

-- no object of the table has this one's index
abbrev is_absent : Table → ObjectSpec → Type 0
is_absent table o = object_of table o.index ≡ None

-- what a table has to be to take these objects in turn
pub record CanTake (table : Table) (os : List ObjectSpec) : Type 0 where
  pub rising : is_rising (indexes os) ≡ true
  pub absent : All (is_absent table) os

-- an object placed at one index isn't found at another
placed_other : (index other : ℕ) (x : Object) (table : Table) → index ≢ other → object_of (placed index x table) other ≡ object_of table other
placed_other index other x [] differ = grind (arith, common_steps)
placed_other index other x (row ∷ rows) differ = go (nat_lt index row.0) (placed_other index other x rows differ)
  where
    go : (below : Bool) → object_of (placed index x rows) other ≡ object_of rows other → object_of (if below then (index, x) ∷ row ∷ rows else row ∷ placed index x rows) other ≡ object_of (row ∷ rows) other
    go true later = grind (arith, common_steps)
    go false later = ap (λ found. if nat_eq other row.0 then Some row.1 else found) later

length-placed : (index : ℕ) (x : Object) (table : Table) → length (placed index x table) ≡ length table + 1
length-placed index x [] = refl
length-placed index x (row ∷ rows) = grind (arith, length-placed index x rows)

-- the others are still absent behind one of lower index
absent_on : (o : ObjectSpec) (table : Table) (os : List ObjectSpec) → list_all (nat_lt o.index) (indexes os) ≡ true → All (is_absent table) os → All (is_absent (placed o.index (kept o) table)) os
absent_on o table [] above all = All-nil (is_absent (placed o.index (kept o) table))
absent_on o table (p ∷ ps) above all =
    let differ : o.index ≢ p.index = (λ e. absurd (grind (arith, e, above))) in
    All-cons (is_absent (placed o.index (kept o) table)) p ps (placed_other o.index p.index (kept o) table differ ∙ All-head (is_absent table) p ps all)
    (absent_on o table ps (grind (arith, above)) (All-tail (is_absent table) p ps all))

-- one object taken
takes_on : (o : ObjectSpec) (table : Table) (os : List ObjectSpec) → CanTake table (o ∷ os) → CanTake (placed o.index (kept o) table) os
takes_on o table os can =
    let above : list_all (nat_lt o.index) (indexes os) ≡ true = grind (arith, can.rising) in
    record {
      rising = grind (arith, can.rising);
      absent = absent_on o table os above (All-tail (is_absent table) o os can.absent);
    }

-- the profile's own objects are in no object's way
own_absent : (eoe : Bool) (o : ObjectSpec) → IsObject o → is_absent (own_table eoe) o
own_absent true o is = grind (arith, common_steps, is.no_emergency, is.no_packet)
own_absent false o is = grind (arith, common_steps, is.no_emergency)

own_length : (eoe : Bool) → length (own_table eoe) ≤ 2
own_length true = omega arith
own_length false = omega arith

-- where a loop is that takes objects: i of them are in the table
pub record HasTaken (objects : List ObjectSpec) (eoe : Bool) (i : ℕ) (table : Table) : Type 0 where
  pub rest : with_objects (drop i objects) table ≡ with_objects objects (own_table eoe)
  pub count : length table ≤ i + 2
  pub can : CanTake table (drop i objects)

pub takes_first : (objects : List ObjectSpec) (eoe : Bool) → is_rising (indexes objects) ≡ true → All IsObject objects → HasTaken objects eoe 0 (own_table eoe)
takes_first objects eoe rising all = record {
  rest = refl;
  count = own_length eoe;
  can = record { rising = rising; absent = All-weaker IsObject (is_absent (own_table eoe)) (own_absent eoe) objects all };
}

module _ (objects : List ObjectSpec) (eoe : Bool) (i : ℕ) (o : ObjectSpec) (lt : i < length objects) (is : o ≡ get_or objects i o) where
  split : drop i objects ≡ o ∷ drop (i + 1) objects
  split = drop_more objects i o lt ∙ ap (λ p. p ∷ drop (i + 1) objects) (sym is)

  -- the next object isn't there
  pub next_absent : (table : Table) → HasTaken objects eoe i table → object_of table o.index ≡ None
  next_absent table taken = All-head (is_absent table) o (drop (i + 1) objects) (subst (λ os. All (is_absent table) os) split taken.can.absent)

  -- and then it is
  pub takes_more : (table new : Table) → new ≡ placed o.index (kept o) table → HasTaken objects eoe i table → HasTaken objects eoe (i + 1) new
  takes_more table new is_placed taken = rw is_placed (record {
    rest = subst (λ os. with_objects os table ≡ with_objects objects (own_table eoe)) split taken.rest;
    count = omega (arith, length-placed o.index (kept o) table, taken.count);
    can = takes_on o table (drop (i + 1) objects) (subst (CanTake table) split taken.can);
  })
