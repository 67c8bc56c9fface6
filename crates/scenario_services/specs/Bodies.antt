-- What the keys of a service say, behind its slave.
use Rattle.std.specs.Prelude.{ℕ, ◌==◌, ◌||◌, ◌&&◌, ◌-◌, not, List, codes, Result, Ok}
use Rattle.toml.specs.Data.{Members}
use Rattle.scenario_values.specs.of_eoe.Address.{is_block}
use Rattle.scenario_values.specs.of_segment_plan.declared.slave.SlaveSpec.{SlaveSpec}
use Rattle.scenario_values.specs.of_segment_plan.declared.service.Service.{Service}
use Rattle.scenario_values.specs.of_segment_plan.declared.service.Service.TheVariants.{Sdo, ReadFile, WriteFile, ReadIdn, WriteIdn, SetIp, GetIp, State}
use Rattle.scenario_values.specs.of_segment_plan.Bound.{smaller}
use Rattle.scenario_values.specs.of_segment_plan.Sound.{is_target}
use Rattle.scenario_values.specs.of_scenario_keys.declared.place.Place.{Place}
use Rattle.scenario_values.specs.of_scenario_keys.declared.refusal.Rule.TheVariants.{OutOfRange}
use Rattle.scenario_values.specs.of_scenario_keys.declared.refusal.Refusal.{Refusal}
use Rattle.scenario_values.specs.of_scenario_keys.Reading.{◌>>=◌, unless_refused}
use Rattle.scenario_values.specs.of_scenario_keys.Keys.{integer_at, integer_or, name_at}
use Rattle.scenario_values.specs.Octets.{octets_at}
use Rattle.scenario_services.specs.declared.actions.SdoAction.{SdoAction}
use Rattle.scenario_services.specs.declared.actions.Action.{Action}
use Rattle.scenario_services.specs.declared.actions.Action.TheVariants as actions
use Rattle.scenario_services.specs.Sdo.{word_at, sub_at, sdo_of}

-- the password of a file
abbrev pub password_at : Place → Members → Result ℕ Refusal
password_at place ms = integer_or (codes "password") 0 0 0xFFFFFFFF place ms

-- a drive, an IDN and element flags
abbrev pub element_at : Place → Members → Result (ℕ × ℕ × ℕ) Refusal
element_at place ms = do
  drive ← integer_or (codes "drive") 0 0 7 place ms
  idn ← word_at (codes "number") place ms
  elements ← sub_at (codes "elements") place ms
  Ok (drive, idn, elements)

-- an address block that fits both mailboxes
abbrev pub block_at : SlaveSpec → Place → Members → Result (List ℕ) Refusal
block_at slave place ms = do
  block ← octets_at (codes "block") 4 (smaller slave - 10) place ms
  _ ← unless_refused OutOfRange place (is_block block)
  Ok block

-- a target, which is a return to Init and Bootstrap only where the slave has that state
abbrev pub state_at : SlaveSpec → Place → Members → Result ℕ Refusal
state_at slave place ms = do
  target ← integer_at (codes "target") 1 8 place ms
  _ ← unless_refused OutOfRange place (is_target target && (slave.boot || not (target == 3)))
  Ok target

-- a service of CoE
abbrev pub sdo_at : SdoAction → Place → Members → Result Service Refusal
sdo_at action place ms = sdo_of action place ms >>= λ service. Ok (Sdo service)

-- the reading of a file
abbrev pub read_file_at : Place → Members → Result Service Refusal
read_file_at place ms = do
  name ← name_at (codes "name") place ms
  pass ← password_at place ms
  Ok (ReadFile (record { items = name }) pass)

-- the writing of a file
abbrev pub write_file_at : Place → Members → Result Service Refusal
write_file_at place ms = do
  name ← name_at (codes "name") place ms
  pass ← password_at place ms
  bytes ← octets_at (codes "value") 0 131072 place ms
  Ok (WriteFile (record { items = name }) pass bytes)

-- the reading of an element of an IDN
abbrev pub read_idn_at : Place → Members → Result Service Refusal
read_idn_at place ms = element_at place ms >>= λ e. Ok (ReadIdn e.0 e.1 e.2)

-- the writing of an element of an IDN
abbrev pub write_idn_at : Place → Members → Result Service Refusal
write_idn_at place ms = do
  e ← element_at place ms
  bytes ← octets_at (codes "value") 1 4096 place ms
  Ok (WriteIdn e.0 e.1 e.2 bytes)

-- the setting of the address block
abbrev pub set_ip_at : SlaveSpec → Place → Members → Result Service Refusal
set_ip_at slave place ms = block_at slave place ms >>= λ block. Ok (SetIp block)

-- a change of the AL state
abbrev pub target_state_at : SlaveSpec → Place → Members → Result Service Refusal
target_state_at slave place ms = state_at slave place ms >>= λ target. Ok (State target)

-- what the keys of a service say, behind its slave
unfoldable pub body_of : Action → SlaveSpec → Place → Members → Result Service Refusal
body_of (actions.Sdo action) slave place ms = sdo_at action place ms
body_of actions.ReadFile slave place ms = read_file_at place ms
body_of actions.WriteFile slave place ms = write_file_at place ms
body_of actions.ReadIdn slave place ms = read_idn_at place ms
body_of actions.WriteIdn slave place ms = write_idn_at place ms
body_of actions.SetIp slave place ms = set_ip_at slave place ms
body_of actions.GetIp slave place ms = Ok GetIp
body_of actions.State slave place ms = target_state_at slave place ms
