-- The slaves of a scenario, or their first refusal.
use Rattle.std.specs.Prelude.{ℕ, List, Result}
use Rattle.toml.specs.Data.{Members}
use Rattle.scenario_values.specs.of_segment_plan.declared.slave.SlaveSpec.{SlaveSpec}
use Rattle.scenario_values.specs.of_scenario_keys.declared.place.Place.TheVariants as places
use Rattle.scenario_values.specs.of_scenario_keys.declared.refusal.Refusal.{Refusal}
use Rattle.scenario_values.specs.of_scenario_keys.Reading.{each}
use Rattle.scenario_slaves.specs.Settings.{pace_at}
use Rattle.scenario_slaves.specs.Slave.{slave_of}

-- the slaves in ring order
abbrev pub slaves_of : ℕ → List Members → Result (List SlaveSpec) Refusal
slaves_of version tables = each (slave_of version) 0 tables

-- the paces of slaves that were read
abbrev pub paces_of : ℕ → List Members → Result (List ℕ) Refusal
paces_of version tables = each (λ k ms. pace_at version (places.Slave k) ms) 0 tables
