-- Lists of tables.
use Rattle.std.specs.Prelude.{ℕ, nat_le, List, [], length, unwrap_or, Result, Ok}
use Rattle.toml.specs.Data.{Data, Items, Members, get_member, as_array, as_table}
use Rattle.scenario_keys.specs.declared.place.Place.{Place}
use Rattle.scenario_keys.specs.declared.refusal.Rule.TheVariants.{WrongKind, TooMany}
use Rattle.scenario_keys.specs.declared.refusal.Refusal.{Refusal}
use Rattle.scenario_keys.specs.Reading.{◌>>=◌, wanted, unless_refused, optional, each}
use Rattle.scenario_keys.specs.Keys.{needed_at, list_of}

-- items that are tables, at most so many
abbrev pub tables_of : ℕ → Place → Items → Result (List Members) Refusal
tables_of most place ds = do
  tables ← each (λ _ d. wanted WrongKind place (as_table d)) 0 (list_of ds)
  _ ← unless_refused TooMany place (nat_le (length tables) most)
  Ok tables

-- a list of tables, at most so many
abbrev pub tables_in : ℕ → Place → Data → Result (List Members) Refusal
tables_in most place d = wanted WrongKind place (as_array d) >>= tables_of most place

-- the same of a key that has to be there
abbrev pub tables_at : List ℕ → ℕ → Place → Members → Result (List Members) Refusal
tables_at key most place ms = needed_at key place ms >>= tables_in most place

-- a list that is empty where its key is left out
abbrev pub optional_tables_at : List ℕ → ℕ → Place → Members → Result (List Members) Refusal
optional_tables_at key most place ms = optional (tables_in most place) (get_member key ms) >>= λ o. Ok (unwrap_or o [])
