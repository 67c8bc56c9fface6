-- What is told of a scenario that is refused.
use Rattle.std.specs.Prelude.{◌≡◌, ℕ, List}
use Rattle.ecmbx_words.specs.Texts.{refusal_line}
use Rattle.ecmbx_words.specs.declared.status.Status.{Status}
use Rattle.ecmbx_words.specs.declared.status.Status.TheVariants as statuses
use Rattle.scenario_keys.specs.declared.place.Place.{Place}

-- the answer to octets that are refused by a rule at a place
pub record RefusedCourse (name octets : List ℕ) (rule : ℕ) (place : Place) (planned : Status) (text : List ℕ) : Type 0 where
  pub status : planned ≡ statuses.Refused
  pub told : text ≡ refusal_line rule place
