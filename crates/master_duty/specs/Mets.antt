-- What a done access makes of a state service.
use Rattle.std.specs.Prelude.{◌≡◌, ℕ, ⊤}
use Rattle.al_state.specs.declared.climbing.Climb.{Climb}
use Rattle.al_state.specs.declared.climbing.Climb.TheVariants.{Ask, Await, Acknowledge, Recover, Arrived, Refused}
use Rattle.state_model.specs.of_segment_model.Ends.{Outcome}
use Rattle.state_model.specs.States.{Phase}
use Rattle.state_model.specs.Accounts
use Rattle.state_model.specs.Accounts.{Progress}
use Rattle.master_duty.specs.declared.stage.Met.{Met}
use Rattle.master_duty.specs.Stages.{stage_of}

-- a climb that goes on, or the answer that ends it
abbrev pub met_of : {R : Type 0} → Climb → Progress R
met_of Arrived = Progress.Over Outcome.Reached
met_of (Refused code) = Progress.Over (Outcome.Refused code)
met_of (Ask target) = Progress.On (Accounts.Stage.Goes Phase.Ask)
met_of (Await target) = Progress.On (Accounts.Stage.Goes Phase.Await)
met_of (Acknowledge state code) = Progress.On (Accounts.Stage.Goes (Phase.Acknowledge state code))
met_of (Recover code) = Progress.On (Accounts.Stage.Goes (Phase.Recover code))

-- the progress of the account, by what its duty has met
abbrev pub progress_of : {R : Type 0} → Met → Progress R
progress_of (Met.On duty) = Progress.On (stage_of duty.stage)
progress_of Met.Reached = Progress.Over Outcome.Reached
progress_of (Met.Refused code) = Progress.Over (Outcome.Refused code)

-- a state service that goes on keeps its target
abbrev pub KeepsTarget : ℕ → Met → Type 0
KeepsTarget target (Met.On duty) = duty.target ≡ target
KeepsTarget target Met.Reached = ⊤
KeepsTarget target (Met.Refused code) = ⊤
