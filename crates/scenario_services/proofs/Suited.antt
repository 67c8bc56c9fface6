-- Services that suit every slave: all but an address block and a state.
use Rattle.std.proofs.Common.{codes, Result, Ok, Err, IfOk, OnOk}
use Rattle.toml.specs.Data.{Members}
use Rattle.scenario_values.specs.of_segment_plan.declared.slave.SlaveSpec.{SlaveSpec}
use Rattle.scenario_values.specs.of_segment_plan.declared.service.Service.{Service}
use Rattle.scenario_values.specs.of_segment_plan.declared.service.Service.TheVariants.{Sdo, ReadFile, WriteFile, ReadIdn, WriteIdn}
use Rattle.scenario_values.specs.of_scenario_keys.declared.place.Place.{Place}
use Rattle.scenario_values.specs.of_scenario_keys.declared.refusal.Refusal.{Refusal}
use Rattle.scenario_values.specs.of_scenario_keys.declared.refusal.Stop.{Stop}
use Rattle.scenario_values.specs.of_scenario_keys.Reading.{◌>>=◌}
use Rattle.scenario_values.specs.of_scenario_keys.Keys.{name_at}
use Rattle.scenario_values.specs.Octets.{octets_at}
use Rattle.scenario_services.specs.declared.actions.SdoAction.{SdoAction}
use Rattle.scenario_services.specs.Sdo.{sdo_of}
use Rattle.scenario_services.specs.Suited.{Suits}
use Rattle.scenario_services.specs.Bodies.{password_at, element_at, sdo_at, read_file_at, write_file_at, read_idn_at, write_idn_at}

-- what is read suits, where all that may follow does
next : {A : Type 0} (slave : SlaveSpec) (read : Result A Refusal) (f : A → Result Service Refusal) → ((x : A) → IfOk (f x) (Suits slave)) → IfOk (read >>= f) (Suits slave)
next slave (Ok x) f all = all x
next slave (Err e) f all = tt

told : {P : Type 0} (r : Result (Unit {0}) Stop) → P → OnOk r P
told (Ok done) p = p
told (Err e) p = tt

pub sdo : (slave : SlaveSpec) (action : SdoAction) (place : Place) (ms : Members) (r : Result (Unit {0}) Stop) → OnOk r (IfOk (sdo_at action place ms) (Suits slave))
sdo slave action place ms r = told r (next slave (sdo_of action place ms) (λ service. Ok (Sdo service)) (λ service. tt))

pub read_file : (slave : SlaveSpec) (place : Place) (ms : Members) (r : Result (Unit {0}) Stop) → OnOk r (IfOk (read_file_at place ms) (Suits slave))
read_file slave place ms r =
    told r (next slave (name_at (codes "name") place ms) (λ name. password_at place ms >>= λ pass. Ok (ReadFile (record { items = name }) pass))
    (λ name. next slave (password_at place ms) (λ pass. Ok (ReadFile (record { items = name }) pass)) (λ pass. tt)))

pub write_file : (slave : SlaveSpec) (place : Place) (ms : Members) (r : Result (Unit {0}) Stop) → OnOk r (IfOk (write_file_at place ms) (Suits slave))
write_file slave place ms r =
    told r (next slave (name_at (codes "name") place ms)
    (λ name. password_at place ms >>= λ pass. octets_at (codes "value") 0 131072 place ms >>= λ bytes. Ok (WriteFile (record { items = name }) pass bytes))
    (λ name. next slave (password_at place ms) (λ pass. octets_at (codes "value") 0 131072 place ms >>= λ bytes. Ok (WriteFile (record { items = name }) pass bytes))
    (λ pass. next slave (octets_at (codes "value") 0 131072 place ms) (λ bytes. Ok (WriteFile (record { items = name }) pass bytes)) (λ bytes. tt))))

pub read_idn : (slave : SlaveSpec) (place : Place) (ms : Members) (r : Result (Unit {0}) Stop) → OnOk r (IfOk (read_idn_at place ms) (Suits slave))
read_idn slave place ms r = told r (next slave (element_at place ms) (λ e. Ok (ReadIdn e.0 e.1 e.2)) (λ e. tt))

pub write_idn : (slave : SlaveSpec) (place : Place) (ms : Members) (r : Result (Unit {0}) Stop) → OnOk r (IfOk (write_idn_at place ms) (Suits slave))
write_idn slave place ms r =
    told r (next slave (element_at place ms) (λ e. octets_at (codes "value") 1 4096 place ms >>= λ bytes. Ok (WriteIdn e.0 e.1 e.2 bytes))
    (λ e. next slave (octets_at (codes "value") 1 4096 place ms) (λ bytes. Ok (WriteIdn e.0 e.1 e.2 bytes)) (λ bytes. tt)))
