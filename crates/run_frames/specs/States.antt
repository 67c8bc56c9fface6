-- HOW MANY STATE SERVICES CAME INTO HAND in a life.
use Rattle.std.specs.Prelude.{ℕ, ◌+◌, List, [], ◌∷◌}
use Rattle.life_runs.specs.of_life_model.Lives.{Era, Life}
use Rattle.life_runs.specs.of_state_model.Stated.{Service}
use Rattle.life_runs.specs.of_state_model.Accounts.{Started}
use Rattle.run_frames.specs.Clocks.{Clocked}

-- a service by mails counts none
abbrev pub state_of : {Q : Type 0} → Service Q → ℕ
state_of (Service.Mails q) = 0
state_of (Service.State target) = 1

-- of an epoch's services
abbrev pub states_in : {Q : Type 0} → List (Started Q) → ℕ
states_in [] = 0
states_in (s ∷ ss) = state_of s.service + states_in ss

-- of epochs
abbrev pub states_of : {M Q R : Type 0} → List (Era M Q R) → ℕ
states_of [] = 0
states_of (e ∷ es) = states_in e.account.started + states_of es

-- of a life
abbrev pub states_begun : {M Q R : Type 0} → Life M Q R → ℕ
states_begun l = states_of l.past + states_in l.era.account.started

-- of all slaves
abbrev pub states_all : {M Q R : Type 0} → List (Clocked M Q R) → ℕ
states_all [] = 0
states_all (c ∷ cs) = states_begun c.life + states_all cs
