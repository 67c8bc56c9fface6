-- The plan that a file's octets write, or their first refusal.
use Rattle.std.specs.Prelude.{ℕ, List, Result, if◌then◌else◌}
use Rattle.std.specs.Str.{is_utf8}
use Rattle.toml.specs.Data.{Members}
use Rattle.toml.specs.Parse.{parse_document}
use Rattle.scenario_document.specs.of_segment_plan.declared.plan.Scenario.{Scenario}
use Rattle.scenario_document.specs.of_scenario_keys.declared.place.Place.TheVariants as places
use Rattle.scenario_document.specs.of_scenario_keys.declared.refusal.Rule.TheVariants.{NotToml}
use Rattle.scenario_document.specs.of_scenario_keys.declared.refusal.Refusal.{Refusal}
use Rattle.scenario_document.specs.of_scenario_keys.Reading.{◌>>=◌, refuse, wanted}
use Rattle.scenario_document.specs.Tables.{tables_of}
use Rattle.scenario_document.specs.Whole.{whole}

-- the TOML document that octets write
unfoldable pub document_of : List ℕ → Result Members Refusal
document_of octets = if is_utf8 octets then wanted NotToml places.Top (parse_document octets) else refuse NotToml places.Top

-- the plan that a file's octets write, or why they are refused
unfoldable pub plan_of : List ℕ → Result Scenario Refusal
plan_of octets = do
  ms ← document_of octets
  s ← tables_of ms
  whole s
