-- A slave of a scenario, or its first refusal.
use Rattle.std.specs.Prelude.{ℕ, ◌==◌, List, [], ◌∷◌, codes, Result, Ok, if◌then◌else◌}
use Rattle.toml.specs.Data.{Members}
use Rattle.scenario_values.specs.of_file_store.declared.file.FileSpec.{FileSpec}
use Rattle.scenario_values.specs.of_segment_plan.declared.slave.ObjectSpec.{ObjectSpec}
use Rattle.scenario_values.specs.of_idn_table.declared.spec.IdnSpec.{IdnSpec}
use Rattle.scenario_values.specs.of_segment_plan.declared.slave.SlaveSpec.{SlaveSpec}
use Rattle.scenario_values.specs.of_scenario_keys.declared.place.Place.{Place}
use Rattle.scenario_values.specs.of_scenario_keys.declared.place.Place.TheVariants as places
use Rattle.scenario_values.specs.of_scenario_keys.declared.refusal.Refusal.{Refusal}
use Rattle.scenario_values.specs.of_scenario_keys.Reading.{◌>>=◌}
use Rattle.scenario_values.specs.of_scenario_keys.Keys.{only_keys}
use Rattle.scenario_values.specs.Tables.{optional_tables_at}
use Rattle.scenario_values.specs.Objects.{objects_of}
use Rattle.scenario_slaves.specs.Files.{files_of}
use Rattle.scenario_slaves.specs.Idns.{idns_of}
use Rattle.scenario_slaves.specs.Plain.{plain_slave_of}

-- the keys of a slave behind its station and its pace
abbrev pub keys_behind : List (List ℕ)
keys_behind =
    codes "mail" ∷ codes "serves" ∷ codes "boot" ∷ codes "start" ∷ codes "blocks" ∷ codes "mac" ∷ codes "fixed_ip"
    ∷ codes "object" ∷ codes "file" ∷ codes "idn" ∷ []

-- the keys of a slave, in version 2 with its pace
abbrev pub slave_keys : ℕ → List (List ℕ)
slave_keys version =
    if version == 2 then codes "name" ∷ codes "station" ∷ codes "pace" ∷ keys_behind
    else codes "name" ∷ codes "station" ∷ keys_behind

-- a slave with its lists
abbrev pub with_lists : SlaveSpec → List ObjectSpec → List (FileSpec × List ℕ) → List IdnSpec → SlaveSpec
with_lists s objects files idns = record {
  name = s.name;
  station = s.station;
  out_len = s.out_len;
  in_len = s.in_len;
  «coe» = s.«coe»;
  foe = s.foe;
  eoe = s.eoe;
  soe = s.soe;
  boot = s.boot;
  start = s.start;
  blocks = s.blocks;
  mac = s.mac;
  fixed_ip = s.fixed_ip;
  objects = objects;
  files = files;
  idns = idns;
}

-- a slave: its plain keys, the lengths of its lists, then its objects, files and IDNs
unfoldable pub slave_of : ℕ → ℕ → Members → Result SlaveSpec Refusal
slave_of version slave ms = do
  _ ← only_keys (slave_keys version) (places.Slave slave) ms
  spec ← plain_slave_of version (places.Slave slave) ms
  object_tables ← optional_tables_at (codes "object") 256 (places.Slave slave) ms
  file_tables ← optional_tables_at (codes "file") 32 (places.Slave slave) ms
  idn_tables ← optional_tables_at (codes "idn") 256 (places.Slave slave) ms
  objects ← objects_of slave object_tables
  files ← files_of slave spec.blocks file_tables
  idns ← idns_of slave idn_tables
  Ok (with_lists spec objects files idns)
