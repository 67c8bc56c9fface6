use Rattle.std.specs.Prelude.{ℕ, ◌+◌, ◌==◌, if◌then◌else◌}
use Rattle.datagrams.specs.of_ec_fields.Fields.{bits_of}
use Rattle.al_state.specs.declared.climbing.Climb.{Climb}
use Rattle.al_state.specs.declared.climbing.Climb.TheVariants.{Ask, Await, Acknowledge, Recover, Arrived, Refused}
use Rattle.al_state.specs.declared.climbing.ClimbNext.{ClimbNext}
use Rattle.al_state.specs.declared.climbing.ClimbNext.TheVariants.{Write, ReadStatus, Arrived as Reached, Refused as Denied}

-- what is to be done: write the target, read the status, write the state with the acknowledge, read the status, done
abbrev pub next_of : Climb → ClimbNext
next_of (Ask target) = Write target
next_of (Await target) = ReadStatus
next_of (Acknowledge state code) = Write (state + 16)
next_of (Recover code) = ReadStatus
next_of Arrived = Reached
next_of (Refused code) = Denied code

-- behind the return of a write
abbrev pub written_to : Climb → Climb
written_to (Ask target) = Await target
written_to (Await target) = Await target
written_to (Acknowledge state code) = Recover code
written_to (Recover code) = Recover code
written_to Arrived = Arrived
written_to (Refused code) = Refused code

-- behind a status that was read: an error is acknowledged in the state that it shows, and the refusal
-- has the code of the first one
abbrev pub shown_to : Climb → ℕ → ℕ → Climb
shown_to (Await target) status code =
    if bits_of status 4 1 == 1 then Acknowledge (bits_of status 0 4) code
    else if status == target then Arrived
    else Await target
shown_to (Recover first) status code = if bits_of status 4 1 == 1 then Recover first else Refused first
shown_to (Ask target) status code = Ask target
shown_to (Acknowledge state first) status code = Acknowledge state first
shown_to Arrived status code = Arrived
shown_to (Refused first) status code = Refused first
