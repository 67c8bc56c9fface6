-- The services of a scenario, or their first refusal.
use Rattle.std.specs.Prelude.{ℕ, List, codes, Option, Result, Ok, slice_get}
use Rattle.std.specs.List.{position_from}
use Rattle.std.specs.Str.{bytes_eq}
use Rattle.toml.specs.Data.{Members}
use Rattle.scenario_values.specs.of_segment_plan.declared.slave.SlaveSpec.{SlaveSpec}
use Rattle.scenario_values.specs.of_segment_plan.declared.service.Service.{Service}
use Rattle.scenario_values.specs.of_scenario_keys.declared.place.Place.{Place}
use Rattle.scenario_values.specs.of_scenario_keys.declared.place.Place.TheVariants as places
use Rattle.scenario_values.specs.of_scenario_keys.declared.refusal.Rule.TheVariants.{UnknownSlave}
use Rattle.scenario_values.specs.of_scenario_keys.declared.refusal.Refusal.{Refusal}
use Rattle.scenario_values.specs.of_scenario_keys.Reading.{◌>>=◌, wanted, each}
use Rattle.scenario_values.specs.of_scenario_keys.Keys.{text_at}
use Rattle.scenario_services.specs.declared.actions.Action.{Action}
use Rattle.scenario_services.specs.Actions.{given_action, only_keys_of, action_at}
use Rattle.scenario_services.specs.Bodies.{body_of}

-- the slave of a name
abbrev pub slave_named : List ℕ → List SlaveSpec → Option ℕ
slave_named name slaves = position_from (λ (s : SlaveSpec). bytes_eq s.name name) 0 slaves

-- the slave of a service
abbrev pub target_at : List SlaveSpec → Place → Members → Result ℕ Refusal
target_at slaves place ms = text_at (codes "slave") place ms >>= λ name. wanted UnknownSlave place (slave_named name slaves)

-- what the keys say of a service of the slave of a number
abbrev pub addressed_body : Action → List SlaveSpec → ℕ → Place → Members → Result Service Refusal
addressed_body action slaves slave place ms = wanted UnknownSlave place (slice_get slaves slave) >>= λ spec. body_of action spec place ms

-- a service and its slave
unfoldable pub service_of : List SlaveSpec → ℕ → Members → Result (ℕ × Service) Refusal
service_of slaves service ms = do
  _ ← only_keys_of (given_action ms) (places.Service service) ms
  slave ← target_at slaves (places.Service service) ms
  action ← action_at (places.Service service) ms
  body ← addressed_body action slaves slave (places.Service service) ms
  Ok (slave, body)

-- all services, in order
abbrev pub services_of : List SlaveSpec → List Members → Result (List (ℕ × Service)) Refusal
services_of slaves tables = each (service_of slaves) 0 tables
