-- What a service does, by the word of its key `do`, and the keys that it has.
use Rattle.std.specs.Prelude.{ℕ, List, [], ◌∷◌, codes, Option, Some, None, Result, Ok, if◌then◌else◌, option_and_then}
use Rattle.std.specs.Str.{bytes_eq}
use Rattle.toml.specs.Data.{Members, get_member, as_str}
use Rattle.scenario_values.specs.of_scenario_keys.declared.place.Place.{Place}
use Rattle.scenario_values.specs.of_scenario_keys.declared.refusal.Rule.TheVariants.{OutOfRange}
use Rattle.scenario_values.specs.of_scenario_keys.declared.refusal.Refusal.{Refusal}
use Rattle.scenario_values.specs.of_scenario_keys.Reading.{◌>>=◌, wanted}
use Rattle.scenario_values.specs.of_scenario_keys.Keys.{only_keys, text_at}
use Rattle.scenario_services.specs.declared.actions.SdoAction.{SdoAction}
use Rattle.scenario_services.specs.declared.actions.SdoAction.TheVariants as sdo
use Rattle.scenario_services.specs.declared.actions.Action.{Action}
use Rattle.scenario_services.specs.declared.actions.Action.TheVariants as actions

-- what a service of CoE does
abbrev pub sdo_action_of : List ℕ → Option SdoAction
sdo_action_of word =
    if bytes_eq word (codes "download") then Some sdo.Download
    else if bytes_eq word (codes "upload") then Some sdo.Upload
    else if bytes_eq word (codes "download_all") then Some sdo.DownloadAll
    else if bytes_eq word (codes "upload_all") then Some sdo.UploadAll
    else if bytes_eq word (codes "list") then Some sdo.List
    else if bytes_eq word (codes "object") then Some sdo.ObjectInfo
    else if bytes_eq word (codes "entry") then Some sdo.EntryInfo
    else None

-- the keys of a service of CoE
abbrev pub sdo_keys_of : SdoAction → List (List ℕ)
sdo_keys_of sdo.Download = codes "slave" ∷ codes "do" ∷ codes "index" ∷ codes "sub" ∷ codes "value" ∷ []
sdo_keys_of sdo.Upload = codes "slave" ∷ codes "do" ∷ codes "index" ∷ codes "sub" ∷ []
sdo_keys_of sdo.DownloadAll = codes "slave" ∷ codes "do" ∷ codes "index" ∷ codes "from" ∷ codes "value" ∷ []
sdo_keys_of sdo.UploadAll = codes "slave" ∷ codes "do" ∷ codes "index" ∷ codes "from" ∷ []
sdo_keys_of sdo.List = codes "slave" ∷ codes "do" ∷ codes "kind" ∷ []
sdo_keys_of sdo.ObjectInfo = codes "slave" ∷ codes "do" ∷ codes "index" ∷ []
sdo_keys_of sdo.EntryInfo = codes "slave" ∷ codes "do" ∷ codes "index" ∷ codes "sub" ∷ []

-- what another service does
abbrev pub other_action_of : List ℕ → Option Action
other_action_of word =
    if bytes_eq word (codes "read_file") then Some actions.ReadFile
    else if bytes_eq word (codes "write_file") then Some actions.WriteFile
    else if bytes_eq word (codes "read_idn") then Some actions.ReadIdn
    else if bytes_eq word (codes "write_idn") then Some actions.WriteIdn
    else if bytes_eq word (codes "set_ip") then Some actions.SetIp
    else if bytes_eq word (codes "get_ip") then Some actions.GetIp
    else if bytes_eq word (codes "state") then Some actions.State
    else None

-- a service of CoE, or another one
abbrev pub either_action : Option SdoAction → Option Action → Option Action
either_action (Some action) other = Some (actions.Sdo action)
either_action None other = other

-- what a service does
abbrev pub action_of : List ℕ → Option Action
action_of word = either_action (sdo_action_of word) (other_action_of word)

-- the keys of a service
abbrev pub keys_of : Action → List (List ℕ)
keys_of (actions.Sdo action) = sdo_keys_of action
keys_of actions.ReadFile = codes "slave" ∷ codes "do" ∷ codes "name" ∷ codes "password" ∷ []
keys_of actions.WriteFile = codes "slave" ∷ codes "do" ∷ codes "name" ∷ codes "password" ∷ codes "value" ∷ []
keys_of actions.ReadIdn = codes "slave" ∷ codes "do" ∷ codes "drive" ∷ codes "number" ∷ codes "elements" ∷ []
keys_of actions.WriteIdn = codes "slave" ∷ codes "do" ∷ codes "drive" ∷ codes "number" ∷ codes "elements" ∷ codes "value" ∷ []
keys_of actions.SetIp = codes "slave" ∷ codes "do" ∷ codes "block" ∷ []
keys_of actions.GetIp = codes "slave" ∷ codes "do" ∷ []
keys_of actions.State = codes "slave" ∷ codes "do" ∷ codes "target" ∷ []

-- what a service's key `do` says, where it is a word that is known
abbrev pub given_action : Members → Option Action
given_action ms = option_and_then action_of (option_and_then as_str (get_member (codes "do") ms))

-- Which keys of a service are unknown is judged by what it does; where that isn't known, none is.
abbrev pub only_keys_of : Option Action → Place → Members → Result (Unit {0}) Refusal
only_keys_of None place ms = Ok tt
only_keys_of (Some action) place ms = only_keys (keys_of action) place ms

-- what a service does, by its key `do`
abbrev pub action_at : Place → Members → Result Action Refusal
action_at place ms = text_at (codes "do") place ms >>= λ word. wanted OutOfRange place (action_of word)
