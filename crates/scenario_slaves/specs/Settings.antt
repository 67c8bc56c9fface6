-- What the plain keys of a slave say beside its numbers: its start, its MAC address and its pace, or their first refusal.
use Rattle.std.specs.Prelude.{ℕ, ◌==◌, ◌&&◌, ◌%◌, List, codes, replicate, slice_index, unwrap_or, Option, Some, None, Result, Ok, Bool, true, false, if◌then◌else◌}
use Rattle.std.specs.Str.{bytes_eq}
use Rattle.toml.specs.Data.{Data, Members, get_member}
use Rattle.scenario_values.specs.of_scenario_keys.declared.place.Place.{Place}
use Rattle.scenario_values.specs.of_scenario_keys.declared.refusal.Rule.TheVariants.{OutOfRange}
use Rattle.scenario_values.specs.of_scenario_keys.declared.refusal.Refusal.{Refusal}
use Rattle.scenario_values.specs.of_scenario_keys.Reading.{◌>>=◌, wanted, unless_refused, optional}
use Rattle.scenario_values.specs.of_scenario_keys.Keys.{integer_or, text_in}
use Rattle.scenario_values.specs.Octets.{octets_at, no_octets_at}

-- the AL state of a word, where the slave has it: Bootstrap only with that state
abbrev pub start_of : Bool → List ℕ → Option ℕ
start_of boot word =
    if bytes_eq word (codes "preop") then Some 2
    else if boot && bytes_eq word (codes "boot") then Some 3
    else None

-- the AL state in which a slave starts, of a value
abbrev pub start_in : Bool → Place → Data → Result ℕ Refusal
start_in boot place d = text_in place d >>= λ word. wanted OutOfRange place (start_of boot word)

-- PreOp where the key is left out
abbrev pub start_at : Bool → Place → Members → Result ℕ Refusal
start_at boot place ms = optional (start_in boot place) (get_member (codes "start") ms) >>= λ o. Ok (unwrap_or o 2)

-- a MAC address: 6 octets, the first of them even
abbrev pub own_mac_at : Place → Members → Result (List ℕ) Refusal
own_mac_at place ms = do
  mac ← octets_at (codes "mac") 6 6 place ms
  _ ← unless_refused OutOfRange place (slice_index mac 0 % 2 == 0)
  Ok mac

-- a MAC address stands just where EoE is served; else it is zeros
abbrev pub mac_at : Bool → Place → Members → Result (List ℕ) Refusal
mac_at true place ms = own_mac_at place ms
mac_at false place ms = no_octets_at (codes "mac") place ms >>= λ _. Ok (replicate 6 0)

-- the pace of a slave: 1 in version 1
abbrev pub pace_at : ℕ → Place → Members → Result ℕ Refusal
pace_at version place ms = if version == 2 then integer_or (codes "pace") 1 1 16 place ms else Ok 1
