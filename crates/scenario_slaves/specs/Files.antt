-- The files of a slave, or their first refusal.
use Rattle.std.specs.Prelude.{ℕ, ◌+◌, nat_le, List, [], ◌∷◌, length, codes, Option, Some, None, Result, Ok, Bool, true, false, if◌then◌else◌}
use Rattle.std.specs.Str.{bytes_eq}
use Rattle.toml.specs.Data.{Members}
use Rattle.scenario_values.specs.of_block_pool.Region.{blocks_for}
use Rattle.scenario_values.specs.of_file_store.declared.file.FileSpec.{FileSpec}
use Rattle.scenario_values.specs.of_segment_plan.Sound.{taken, is_new_file}
use Rattle.scenario_values.specs.of_scenario_keys.declared.place.Place.{Place}
use Rattle.scenario_values.specs.of_scenario_keys.declared.place.Place.TheVariants as places
use Rattle.scenario_values.specs.of_scenario_keys.declared.refusal.Rule.TheVariants.{OutOfRange}
use Rattle.scenario_values.specs.of_scenario_keys.declared.refusal.Refusal.{Refusal}
use Rattle.scenario_values.specs.of_scenario_keys.Reading.{◌>>=◌, wanted, unless_refused, each_behind}
use Rattle.scenario_values.specs.of_scenario_keys.Keys.{only_keys, integer_or, bool_at, text_at, name_at}
use Rattle.scenario_values.specs.Octets.{octets_at}

-- whether a file may be read, and whether it may be written
abbrev pub rights_of : List ℕ → Option (Bool × Bool)
rights_of word =
    if bytes_eq word (codes "r") then Some (true, false)
    else if bytes_eq word (codes "w") then Some (false, true)
    else if bytes_eq word (codes "rw") then Some (true, true)
    else None

-- the rights of a file, by their word
abbrev pub rights_at : Place → Members → Result (Bool × Bool) Refusal
rights_at place ms = text_at (codes "rights") place ms >>= λ word. wanted OutOfRange place (rights_of word)

-- a name that no file before has
abbrev pub file_name_at : List (FileSpec × List ℕ) → Place → Members → Result (List ℕ) Refusal
file_name_at before place ms = do
  name ← name_at (codes "name") place ms
  _ ← unless_refused OutOfRange place (is_new_file before name)
  Ok name

-- the octets of a file, for which the blocks suffice that the files before leave
abbrev pub file_value_at : ℕ → List (FileSpec × List ℕ) → Place → Members → Result (List ℕ) Refusal
file_value_at blocks before place ms = do
  value ← octets_at (codes "value") 0 131072 place ms
  _ ← unless_refused OutOfRange place (nat_le (taken before + blocks_for (length value)) blocks)
  Ok value

-- a file of a slave with so many blocks, behind the files before it
unfoldable pub file_of : ℕ → List (FileSpec × List ℕ) → Place → Members → Result (FileSpec × List ℕ) Refusal
file_of blocks before place ms = do
  _ ← only_keys (codes "name" ∷ codes "password" ∷ codes "rights" ∷ codes "boot" ∷ codes "busy" ∷ codes "value" ∷ []) place ms
  name ← file_name_at before place ms
  pass ← integer_or (codes "password") 0 0 0xFFFFFFFF place ms
  rights ← rights_at place ms
  boot ← bool_at (codes "boot") place ms
  busy ← integer_or (codes "busy") 0 0 15 place ms
  value ← file_value_at blocks before place ms
  Ok (record { name = record { items = name }; pass = pass; read = rights.0; write = rights.1; boot = boot; busy = busy }, value)

-- the files of a slave
abbrev pub files_of : ℕ → ℕ → List Members → Result (List (FileSpec × List ℕ)) Refusal
files_of slave blocks tables = each_behind (λ k before ms. file_of blocks before (places.File slave k) ms) tables
