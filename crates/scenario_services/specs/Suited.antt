-- Services that are appended as they are read, and which suit a slave.
use Rattle.std.specs.Prelude.{◌≡◌, ℕ, ◌+◌, ◌≤◌, true, List, [], ◌∷◌, ◌++◌, length, Result, Ok}
use Rattle.scenario_values.specs.of_segment_plan.declared.slave.SlaveSpec.{SlaveSpec}
use Rattle.scenario_values.specs.of_segment_plan.declared.service.Service.{Service}
use Rattle.scenario_values.specs.of_segment_plan.declared.service.Service.TheVariants.{SetIp, State}
use Rattle.scenario_values.specs.of_segment_plan.Bound.{smaller}
use Rattle.scenario_values.specs.of_scenario_keys.declared.refusal.Refusal.{Refusal}
use Rattle.scenario_values.specs.of_scenario_keys.declared.refusal.Stop.{Stop}
use Rattle.scenario_values.specs.of_scenario_keys.Reading.{◌>>=◌, Gives}

-- What was appended to rows is what reading gives, unless memory ran out.
abbrev pub Appends : {Y : Type 0} → List Y → List Y → Result (Unit {0}) Stop → Result Y Refusal → Type 0
Appends old new result read = Gives (λ _. new) result (read >>= λ y. Ok (old ++ y ∷ []))

-- a service with the number of its slave
abbrev pub sent_to : ℕ → Result Service Refusal → Result (ℕ × Service) Refusal
sent_to number read = read >>= λ service. Ok (number, service)

-- a service that suits a slave: an address block fits both mailboxes, behind the ten octets of the heads, and Bootstrap is asked for only where
-- the slave has it
abbrev pub Suits : SlaveSpec → Service → Type 0
Suits slave (SetIp block) = length block + 10 ≤ smaller slave
Suits slave (State target) = target ≡ 3 → slave.boot ≡ true
Suits slave _ = Unit {0}
