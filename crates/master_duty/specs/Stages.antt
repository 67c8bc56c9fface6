-- The stages of a state service as the model has them.
use Rattle.std.specs.Prelude.{ℕ, ◌==◌, ◌&&◌, nat_lt, Bool, true, false, if◌then◌else◌, Option, Some, None, option_map}
use Rattle.mailbox_mail.specs.of_ec_fields.Fields.{bits_of}
use Rattle.al_state.specs.declared.climbing.Climb.{Climb}
use Rattle.al_state.specs.declared.climbing.Climb.TheVariants.{Ask, Await, Acknowledge, Recover, Arrived, Refused}
use Rattle.al_state.specs.declared.climbing.ClimbNext.{ClimbNext}
use Rattle.al_state.specs.declared.climbing.ClimbNext.TheVariants.{Write, ReadStatus, Arrived as Reached, Refused as Denied}
use Rattle.al_state.specs.Climb.{next_of}
use Rattle.state_model.specs.of_segment_model.Slaves.{Access, Found}
use Rattle.state_model.specs.States.{Phase}
use Rattle.state_model.specs.Accounts
use Rattle.master_duty.specs.declared.stage.Stage.{Stage}
use Rattle.master_duty.specs.declared.stage.Errand.{Errand}

-- the phase of a climb; an ended one stands in the phase that it ended in
abbrev pub phase_of : Climb → Phase
phase_of (Ask target) = Phase.Ask
phase_of (Await target) = Phase.Await
phase_of (Acknowledge state code) = Phase.Acknowledge state code
phase_of (Recover code) = Phase.Recover code
phase_of Arrived = Phase.Await
phase_of (Refused code) = Phase.Recover code

-- the stage of the model: a drain, or a phase on the way
abbrev pub stage_of : Stage → Accounts.Stage
stage_of Stage.Drain = Accounts.Stage.Drains
stage_of (Stage.Way climb) = Accounts.Stage.Goes (phase_of climb)

-- a climb to this target, with states that a control word has room for; it may have come to its end
abbrev pub is_met : ℕ → Climb → Bool
is_met target (Ask to) = to == target && nat_lt target 16
is_met target (Await to) = to == target && nat_lt target 16
is_met target (Acknowledge state code) = nat_lt state 16
is_met target (Recover code) = true
is_met target Arrived = true
is_met target (Refused code) = true

-- a climb that has not come to its end
abbrev pub is_on : Climb → Bool
is_on Arrived = false
is_on (Refused code) = false
is_on _ = true

-- a stage of a state service in hand: its climb goes on, and leads to this target
abbrev pub is_going : ℕ → Stage → Bool
is_going target Stage.Drain = nat_lt target 16
is_going target (Stage.Way climb) = is_on climb && is_met target climb

-- what a status shows: its state, and the code where its error flag stands
abbrev pub found_state : ℕ → ℕ → Found
found_state word code = Found.State (bits_of word 0 4) (if bits_of word 4 1 == 1 then Some code else None)

-- what a climb sends
abbrev pub climb_errand : ClimbNext → Errand
climb_errand (Write word) = Errand.Write word
climb_errand ReadStatus = Errand.ReadStatus
climb_errand Reached = Errand.ReadStatus
climb_errand (Denied code) = Errand.ReadStatus

-- what a stage sends: nothing while it drains
abbrev pub errand_of : Stage → Option Errand
errand_of Stage.Drain = None
errand_of (Stage.Way climb) = Some (climb_errand (next_of climb))

-- the access of a word to be written or of a status to be read
abbrev pub access_of : Errand → Access
access_of (Errand.Write word) = Access.SetControl (bits_of word 0 4) (bits_of word 4 1 == 1)
access_of Errand.ReadStatus = Access.ReadState

-- the access of what is sent, if anything is
abbrev pub errand_access : Option Errand → Option Access
errand_access o = option_map access_of o

-- the state that a slave is opened in anew by a service that has drained and returns it to Init
abbrev pub reopening : ℕ → Accounts.Stage → Option ℕ
reopening target Accounts.Stage.Drains = None
reopening target (Accounts.Stage.Goes phase) = if target == 1 then Some 2 else if target == 3 then Some 3 else None
