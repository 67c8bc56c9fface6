-- What a service does, by what its key `do` says.
use Rattle.std.proofs.Common.{◌≡◌, ℕ, List, [], Option, Some, None, Result, Ok, codes, refl, ap}
use Rattle.std.specs.Result.{result_unwrap_or}
use Rattle.std.specs.Prelude.{option_and_then}
use Rattle.toml.specs.Data.{Data, Members, get_member, as_str}
use Rattle.scenario_values.specs.of_scenario_keys.declared.place.Place.{Place}
use Rattle.scenario_values.specs.of_scenario_keys.declared.refusal.Rule.TheVariants.{Missing, WrongKind, OutOfRange}
use Rattle.scenario_values.specs.of_scenario_keys.declared.refusal.Refusal.{Refusal}
use Rattle.scenario_values.specs.of_scenario_keys.Reading.{◌>>=◌, wanted}
use Rattle.scenario_values.specs.of_scenario_keys.Keys.{text_in, text_at}
use Rattle.scenario_services.specs.declared.actions.Action.{Action}
use Rattle.scenario_services.specs.Actions.{action_of, given_action, action_at}

-- a word that is known
word_some : (place : Place) (a : Action) (o : Option (List ℕ)) → option_and_then action_of o ≡ Some a
    → (wanted WrongKind place o >>= λ word. wanted OutOfRange place (action_of word)) ≡ Ok a
word_some place a (Some word) h = rw h refl
word_some place a None h = cc h

value_some : (place : Place) (a : Action) (o : Option Data) → option_and_then action_of (option_and_then as_str o) ≡ Some a
    → (wanted Missing place o >>= text_in place >>= λ word. wanted OutOfRange place (action_of word)) ≡ Ok a
value_some place a (Some d) h = word_some place a (as_str d) h
value_some place a None h = cc h

pub said_word : (ms : Members) (place : Place) (a : Action) → Some a ≡ given_action ms → action_at place ms ≡ Ok a
said_word ms place a h = value_some place a (get_member (codes "do") ms) (cc h)

-- a word that isn't known
word_none : (place : Place) (word : List ℕ) (o : Option (List ℕ)) → option_and_then action_of o ≡ None → wanted WrongKind place o ≡ Ok word → action_of word ≡ None
word_none place word (Some w) h e =
    let same : w ≡ word = ap (λ (r : Result (List ℕ) Refusal). result_unwrap_or r []) e in
    rw (← same) h
word_none place word None h e = cc e

value_none : (place : Place) (word : List ℕ) (o : Option Data) → option_and_then action_of (option_and_then as_str o) ≡ None
    → (wanted Missing place o >>= text_in place) ≡ Ok word → action_of word ≡ None
value_none place word (Some d) h e = word_none place word (as_str d) h e
value_none place word None h e = cc e

pub said_nothing : (ms : Members) (place : Place) (word : List ℕ) → None ≡ given_action ms → text_at (codes "do") place ms ≡ Ok word → action_of word ≡ None
said_nothing ms place word h e = value_none place word (get_member (codes "do") ms) (cc h) e
