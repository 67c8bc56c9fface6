-- The objects of a slave, or their first refusal.
use Rattle.std.specs.Prelude.{ℕ, ◌==◌, ◌||◌, ◌&&◌, not, nat_le, nat_lt, List, [], ◌∷◌, length, codes, Option, Some, None, Result, Ok, Bool, if◌then◌else◌}
use Rattle.std.specs.Str.{bytes_eq}
use Rattle.toml.specs.Data.{Members}
use Rattle.segment_plan.specs.of_object_dictionary.Whole.{sizes}
use Rattle.segment_plan.specs.declared.slave.ObjectSpec.{ObjectSpec}
use Rattle.scenario_keys.specs.declared.place.Place.{Place}
use Rattle.scenario_keys.specs.declared.place.Place.TheVariants as places
use Rattle.scenario_keys.specs.declared.refusal.Rule.TheVariants.{OutOfRange, TooMany}
use Rattle.scenario_keys.specs.declared.refusal.Refusal.{Refusal}
use Rattle.scenario_keys.specs.Reading.{◌>>=◌, wanted, unless_refused, each_after}
use Rattle.scenario_keys.specs.Keys.{only_keys, integer_at, text_at, label_at}
use Rattle.scenario_values.specs.Tables.{tables_at}
use Rattle.scenario_values.specs.Entries.{entries_of}

-- the object code of a kind of object
abbrev pub code_of : List ℕ → Option ℕ
code_of kind =
    if bytes_eq kind (codes "variable") then Some 7
    else if bytes_eq kind (codes "array") then Some 8
    else if bytes_eq kind (codes "record") then Some 9
    else None

-- the object code, by the word of its kind
abbrev pub code_at : Place → Members → Result ℕ Refusal
code_at place ms = text_at (codes "kind") place ms >>= λ kind. wanted OutOfRange place (code_of kind)

-- an index that objects of a scenario may have, above the one before
abbrev pub is_index : ℕ → ℕ → Bool
is_index before index = nat_lt before index && not (index == 0x2F00 || index == 0x2F01)

-- the index of an object, above the one before
abbrev pub index_at : ℕ → Place → Members → Result ℕ Refusal
index_at before place ms = do
  index ← integer_at (codes "index") 1 0xFFFF place ms
  _ ← unless_refused OutOfRange place (is_index before index)
  Ok index

-- a variable has one entry, an array or record some
abbrev pub is_many : ℕ → ℕ → Bool
is_many code count = if code == 7 then count == 1 else nat_le 1 count

-- the tables of an object's entries
abbrev pub entry_tables_at : ℕ → Place → Members → Result (List Members) Refusal
entry_tables_at code place ms = do
  tables ← tables_at (codes "entry") 254 place ms
  _ ← unless_refused OutOfRange place (is_many code (length tables))
  Ok tables

-- an object holds 16,000 octets at most
abbrev pub sized : Place → ObjectSpec → Result ObjectSpec Refusal
sized place o = unless_refused TooMany place (nat_le (sizes o.entries) 16000) >>= λ _. Ok o

-- an object, whose index is above the one before
unfoldable pub object_of : ℕ → ℕ → ℕ → Members → Result ObjectSpec Refusal
object_of slave object before ms = do
  _ ← only_keys (codes "index" ∷ codes "kind" ∷ codes "name" ∷ codes "entry" ∷ []) (places.Object slave object) ms
  index ← index_at before (places.Object slave object) ms
  code ← code_at (places.Object slave object) ms
  name ← label_at (codes "name") (places.Object slave object) ms
  tables ← entry_tables_at code (places.Object slave object) ms
  entries ← entries_of slave object code tables
  sized (places.Object slave object) (record { index = index; code = code; name = name; entries = entries })

-- the objects of a slave, their indexes rising
abbrev pub objects_of : ℕ → List Members → Result (List ObjectSpec) Refusal
objects_of slave tables = each_after (λ _ (o : ObjectSpec). o.index) (λ k before ms. object_of slave k before ms) 0 0 tables
