-- What is judged of a scenario behind all its tables.
use Rattle.std.specs.Prelude.{ℕ, length, Option, Some, None, Result, Ok}
use Rattle.scenario_services.specs.of_segment_plan.declared.plan.Scenario.{Scenario}
use Rattle.scenario_services.specs.of_segment_plan.Sound.{repeated_name, repeated_station, are_lost, is_bounded}
use Rattle.scenario_services.specs.of_scenario_keys.declared.place.Place.TheVariants as places
use Rattle.scenario_services.specs.of_scenario_keys.declared.refusal.Rule.{Rule}
use Rattle.scenario_services.specs.of_scenario_keys.declared.refusal.Rule.TheVariants.{SameName, SameStation, Schedule, TooMany}
use Rattle.scenario_services.specs.of_scenario_keys.declared.refusal.Refusal.{Refusal}
use Rattle.scenario_services.specs.of_scenario_keys.Reading.{◌>>=◌, refuse, unless_refused}

-- no slave that one before it equals
abbrev pub unless_repeated : Rule → Option ℕ → Result (Unit {0}) Refusal
unless_repeated rule None = Ok tt
unless_repeated rule (Some slave) = refuse rule (places.Slave slave)

-- what is judged behind all tables: names, stations, the lost frames and the frame bound
abbrev pub whole : Scenario → Result Scenario Refusal
whole s = do
  _ ← unless_repeated SameName (repeated_name s.slaves)
  _ ← unless_repeated SameStation (repeated_station s.slaves)
  _ ← unless_refused Schedule places.Top (are_lost (length s.slaves) s.lose)
  _ ← unless_refused TooMany places.Top (is_bounded s)
  Ok s
