-- The protocols that a slave serves, or their first refusal.
use Rattle.std.specs.Prelude.{ℕ, List, [], ◌∷◌, codes, Option, Some, None, Result, Ok, true, false, if◌then◌else◌}
use Rattle.std.specs.Str.{bytes_eq}
use Rattle.toml.specs.Data.{Data, Members, Items, as_array}
use Rattle.scenario_values.specs.of_scenario_keys.declared.place.Place.{Place}
use Rattle.scenario_values.specs.of_scenario_keys.declared.refusal.Rule.TheVariants.{WrongKind, OutOfRange}
use Rattle.scenario_values.specs.of_scenario_keys.declared.refusal.Refusal.{Refusal}
use Rattle.scenario_values.specs.of_scenario_keys.Reading.{◌>>=◌, wanted, each}
use Rattle.scenario_values.specs.of_scenario_keys.Keys.{needed_at, text_in, list_of}
use Rattle.scenario_slaves.specs.declared.protocols.Served.{Served}

-- the protocols so far with one more: none for another word, and none for a protocol that stands already
abbrev pub more_served : Served → List ℕ → Option Served
more_served s word =
    if bytes_eq word (codes "coe") then (if s.«coe» then None else Some (record { «coe» = true; foe = s.foe; eoe = s.eoe; soe = s.soe }))
    else if bytes_eq word (codes "foe") then (if s.foe then None else Some (record { «coe» = s.«coe»; foe = true; eoe = s.eoe; soe = s.soe }))
    else if bytes_eq word (codes "eoe") then (if s.eoe then None else Some (record { «coe» = s.«coe»; foe = s.foe; eoe = true; soe = s.soe }))
    else if bytes_eq word (codes "soe") then (if s.soe then None else Some (record { «coe» = s.«coe»; foe = s.foe; eoe = s.eoe; soe = true }))
    else None

-- the protocols of words behind those so far
abbrev pub served_of : Place → Served → List (List ℕ) → Result Served Refusal
served_of place s [] = Ok s
served_of place s (word ∷ words) = wanted OutOfRange place (more_served s word) >>= λ more. served_of place more words

-- no protocol
abbrev pub none_served : Served
none_served = record { «coe» = false; foe = false; eoe = false; soe = false }

-- the protocols of items that are all texts
abbrev pub serves_of : Place → Items → Result Served Refusal
serves_of place items = each (λ _ word. text_in place word) 0 (list_of items) >>= served_of place none_served

-- the protocols that are served: a list of their words, each at most once
abbrev pub serves_in : Place → Data → Result Served Refusal
serves_in place d = wanted WrongKind place (as_array d) >>= serves_of place

-- the same of their key, which has to be there
abbrev pub serves_at : Place → Members → Result Served Refusal
serves_at place ms = needed_at (codes "serves") place ms >>= serves_in place
