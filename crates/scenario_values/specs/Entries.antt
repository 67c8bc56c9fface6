-- The entries of an object, or their first refusal.
use Rattle.std.specs.Prelude.{ℕ, ℤ, int_le, ◌==◌, ◌&&◌, List, [], ◌∷◌, codes, Option, Some, None, Result, Ok, Bool, true, if◌then◌else◌, is_none}
use Rattle.toml.specs.Data.{Members}
use Rattle.segment_plan.specs.of_object_dictionary.declared.entry.EntrySpec.{EntrySpec}
use Rattle.segment_plan.specs.of_object_dictionary.Entries.{is_text, size_of_kind, bound_refusal}
use Rattle.segment_plan.specs.Sound.{is_kind}
use Rattle.scenario_keys.specs.declared.place.Place.{Place}
use Rattle.scenario_keys.specs.declared.place.Place.TheVariants as places
use Rattle.scenario_keys.specs.declared.refusal.Rule.TheVariants.{OutOfRange}
use Rattle.scenario_keys.specs.declared.refusal.Refusal.{Refusal}
use Rattle.scenario_keys.specs.Reading.{◌>>=◌, unless_refused, each_after}
use Rattle.scenario_keys.specs.Keys.{only_keys, integer_at, optional_number_at, no_number_at, no_pair_at, sizes_at, label_at}
use Rattle.scenario_values.specs.Octets.{octets_at}

-- the type of the entry before, where that is the type of all of them
abbrev pub is_wanted : Option ℕ → ℕ → Bool
is_wanted None kind = true
is_wanted (Some before) kind = kind == before

-- the type of an entry
abbrev pub kind_at : Option ℕ → Place → Members → Result ℕ Refusal
kind_at before place ms = do
  kind ← integer_at (codes "type") 0 0xFFFF place ms
  _ ← unless_refused OutOfRange place (is_kind kind && is_wanted before kind)
  Ok kind

-- the least and the greatest size of a string
abbrev pub string_sizes_at : Place → Members → Result (ℕ × ℕ) Refusal
string_sizes_at place ms = sizes_at (codes "size") 1 8000 place ms

-- a number has the size of its type
abbrev pub number_sizes_at : ℕ → Place → Members → Result (ℕ × ℕ) Refusal
number_sizes_at kind place ms = no_pair_at (codes "size") place ms >>= λ _. Ok (size_of_kind kind, size_of_kind kind)

-- the sizes of an entry, by its type
abbrev pub entry_sizes_at : ℕ → Place → Members → Result (ℕ × ℕ) Refusal
entry_sizes_at kind place ms = if is_text kind then string_sizes_at place ms else number_sizes_at kind place ms

-- a string has no bounds
abbrev pub no_bound_at : List ℕ → Place → Members → Result (Option ℤ) Refusal
no_bound_at key place ms = no_number_at key place ms >>= λ _. Ok None

-- a bound of an entry, by its type
abbrev pub bound_at : List ℕ → ℕ → Place → Members → Result (Option ℤ) Refusal
bound_at key kind place ms = if is_text kind then no_bound_at key place ms else optional_number_at key place ms

-- the least number isn't above the greatest
abbrev pub are_bounds : Option ℤ → Option ℤ → Bool
are_bounds None max = true
are_bounds (Some least) None = true
are_bounds (Some least) (Some most) = int_le least most

-- both bounds, the least not above the greatest
abbrev pub bounds_at : ℕ → Place → Members → Result (Option ℤ × Option ℤ) Refusal
bounds_at kind place ms = do
  min ← bound_at (codes "min") kind place ms
  max ← bound_at (codes "max") kind place ms
  _ ← unless_refused OutOfRange place (are_bounds min max)
  Ok (min, max)

-- an entry whose value is within its bounds
abbrev pub bounded : Place → EntrySpec → Result EntrySpec Refusal
bounded place e = unless_refused OutOfRange place (is_none (bound_refusal e e.value)) >>= λ _. Ok e

-- an entry, of the type of the one before where all have one
unfoldable pub entry_of : Option ℕ → Place → Members → Result EntrySpec Refusal
entry_of before place ms = do
  _ ← only_keys (codes "type" ∷ codes "access" ∷ codes "size" ∷ codes "min" ∷ codes "max" ∷ codes "name" ∷ codes "value" ∷ []) place ms
  kind ← kind_at before place ms
  access ← integer_at (codes "access") 0 1023 place ms
  sizes ← entry_sizes_at kind place ms
  bounds ← bounds_at kind place ms
  name ← label_at (codes "name") place ms
  value ← octets_at (codes "value") sizes.0 sizes.1 place ms
  bounded place (record { kind = kind; access = access; least = sizes.0; most = sizes.1; min = bounds.0; max = bounds.1; name = name; value = value })

-- the type that the entry behind this one has to have: in an array the same
abbrev pub kind_behind : ℕ → EntrySpec → Option ℕ
kind_behind code e = if code == 8 then Some e.kind else None

-- the entries of an object
abbrev pub entries_of : ℕ → ℕ → ℕ → List Members → Result (List EntrySpec) Refusal
entries_of slave object code tables = each_after (λ _ e. kind_behind code e) (λ k before ms. entry_of before (places.Entry slave object k) ms) 0 None tables
