-- The lost frames of a scenario, or their first refusal.
use Rattle.std.specs.Prelude.{ℕ, ℤ, nat_le, List, [], length, codes, unwrap_or, Result, Ok}
use Rattle.toml.specs.Data.{Data, Items, Members, get_member, as_array}
use Rattle.scenario_services.specs.of_scenario_keys.declared.place.Place.TheVariants as places
use Rattle.scenario_services.specs.of_scenario_keys.declared.refusal.Rule.TheVariants.{WrongKind, TooMany}
use Rattle.scenario_services.specs.of_scenario_keys.declared.refusal.Refusal.{Refusal}
use Rattle.scenario_services.specs.of_scenario_keys.Reading.{◌>>=◌, wanted, unless_refused, optional, each}
use Rattle.scenario_services.specs.of_scenario_keys.Keys.{in_range, two_numbers_in, list_of}

-- a lost frame, and how many slaves it meets before
abbrev pub lost_of : ℤ × ℤ → Result (ℕ × ℕ) Refusal
lost_of pair = do
  frame ← in_range 0 0xFFFFFFFF places.Top pair.0
  after ← in_range 0 0xFFFFFFFF places.Top pair.1
  Ok (frame, after)

-- the same of a list of two numbers
abbrev pub lost_in : Data → Result (ℕ × ℕ) Refusal
lost_in d = two_numbers_in places.Top d >>= lost_of

-- the lost frames of items: all pairs first, then how many they are, then their numbers
abbrev pub lose_of : Items → Result (List (ℕ × ℕ)) Refusal
lose_of items = do
  pairs ← each (λ _ x. two_numbers_in places.Top x) 0 (list_of items)
  _ ← unless_refused TooMany places.Top (nat_le (length pairs) 4096)
  each (λ _ x. lost_in x) 0 (list_of items)

-- the lost frames of a value
abbrev pub lose_in : Data → Result (List (ℕ × ℕ)) Refusal
lose_in d = wanted WrongKind places.Top (as_array d) >>= lose_of

-- none where the key is left out
abbrev pub lose_at : Members → Result (List (ℕ × ℕ)) Refusal
lose_at ms = optional lose_in (get_member (codes "lose") ms) >>= λ o. Ok (unwrap_or o [])
