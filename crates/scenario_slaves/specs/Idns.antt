-- The IDNs of a slave, or their first refusal.
use Rattle.std.specs.Prelude.{ℕ, List, [], ◌∷◌, codes, Result, Ok}
use Rattle.toml.specs.Data.{Members}
use Rattle.scenario_values.specs.of_idn_table.declared.spec.IdnSpec.{IdnSpec}
use Rattle.scenario_values.specs.of_segment_plan.Sound.{is_new_idn}
use Rattle.scenario_values.specs.of_scenario_keys.declared.place.Place.{Place}
use Rattle.scenario_values.specs.of_scenario_keys.declared.place.Place.TheVariants as places
use Rattle.scenario_values.specs.of_scenario_keys.declared.refusal.Rule.TheVariants.{OutOfRange}
use Rattle.scenario_values.specs.of_scenario_keys.declared.refusal.Refusal.{Refusal}
use Rattle.scenario_values.specs.of_scenario_keys.Reading.{◌>>=◌, unless_refused, each_behind}
use Rattle.scenario_values.specs.of_scenario_keys.Keys.{only_keys, integer_at, integer_or, sizes_at, bool_at, optional_label_at}
use Rattle.scenario_values.specs.Bounds.{idn_bounds_at, idn_value_at}

-- a drive at which no IDN before has the number
abbrev pub drive_at : List IdnSpec → ℕ → Place → Members → Result ℕ Refusal
drive_at before number place ms = do
  drive ← integer_at (codes "drive") 0 7 place ms
  _ ← unless_refused OutOfRange place (is_new_idn before drive number)
  Ok drive

-- the keys of an IDN
abbrev idn_keys : List (List ℕ)
idn_keys =
    codes "number" ∷ codes "drive" ∷ codes "attribute" ∷ codes "label" ∷ codes "unit" ∷ codes "size"
    ∷ codes "min" ∷ codes "max" ∷ codes "writable" ∷ codes "value" ∷ []

-- an IDN behind those before it
unfoldable pub idn_of : List IdnSpec → Place → Members → Result IdnSpec Refusal
idn_of before place ms = do
  _ ← only_keys idn_keys place ms
  number ← integer_at (codes "number") 0 0xFFFF place ms
  drive ← drive_at before number place ms
  attribute ← integer_or (codes "attribute") 0 0 0xFFFFFFFF place ms
  label ← optional_label_at (codes "label") place ms
  unit ← optional_label_at (codes "unit") place ms
  sizes ← sizes_at (codes "size") 1 4096 place ms
  bounds ← idn_bounds_at sizes place ms
  writable ← bool_at (codes "writable") place ms
  value ← idn_value_at sizes bounds place ms
  Ok (record {
    drive = drive;
    number = number;
    attribute = attribute;
    label = label;
    unit = unit;
    least = sizes.0;
    most = sizes.1;
    min = bounds.0;
    max = bounds.1;
    writable = writable;
    value = value;
  })

-- the IDNs of a slave
abbrev pub idns_of : ℕ → List Members → Result (List IdnSpec) Refusal
idns_of slave tables = each_behind (λ k before ms. idn_of before (places.Idn slave k) ms) tables
