-- The plan that the tables of a document say, but for what is judged behind all of them, or their first refusal.
use Rattle.std.specs.Prelude.{List, [], ◌∷◌, ℕ, codes, Result, Ok}
use Rattle.toml.specs.Data.{Members}
use Rattle.scenario_services.specs.of_segment_plan.declared.plan.Scenario.{Scenario}
use Rattle.scenario_services.specs.of_scenario_keys.declared.place.Place.TheVariants as places
use Rattle.scenario_services.specs.of_scenario_keys.declared.refusal.Refusal.{Refusal}
use Rattle.scenario_services.specs.of_scenario_keys.Reading.{◌>>=◌}
use Rattle.scenario_services.specs.of_scenario_keys.Keys.{only_keys, integer_at, integer_or}
use Rattle.scenario_services.specs.of_scenario_values.Tables.{optional_tables_at}
use Rattle.scenario_document.specs.Losses.{lose_at}
use Rattle.scenario_document.specs.Top.{version_at, budget_at, slave_tables_at, packets_of}
use Rattle.scenario_slaves.specs.Slaves.{slaves_of, paces_of}
use Rattle.scenario_services.specs.Services.{services_of}

-- the keys of the top
abbrev pub top_keys : List (List ℕ)
top_keys =
    codes "version" ∷ codes "retry" ∷ codes "recover" ∷ codes "budget" ∷ codes "lose" ∷ codes "slave" ∷ codes "service" ∷ codes "host" ∷ []

-- the keys of the top, the slaves with all that stands in them, the services and the packets of the host
unfoldable pub tables_of : Members → Result Scenario Refusal
tables_of ms = do
  version ← version_at ms
  _ ← only_keys top_keys places.Top ms
  retry ← integer_at (codes "retry") 0 15 places.Top ms
  recover ← integer_or (codes "recover") 0 0 15 places.Top ms
  budget ← budget_at ms
  lose ← lose_at ms
  slave_tables ← slave_tables_at ms
  service_tables ← optional_tables_at (codes "service") 4096 places.Top ms
  host_tables ← optional_tables_at (codes "host") 4096 places.Top ms
  slaves ← slaves_of version slave_tables
  paces ← paces_of version slave_tables
  services ← services_of slaves service_tables
  host ← packets_of host_tables
  Ok (record {
    retry = retry;
    recover = recover;
    budget = budget;
    lose = lose;
    slaves = slaves;
    services = services;
    host = host;
    paces = paces;
  })
