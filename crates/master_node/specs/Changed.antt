-- WHAT A MASTER SAYS OF THE NEWEST CHANGE OF STATE of a slave, by what it has of it.
use Rattle.std.specs.Prelude.{◌≡◌, Some, None, []}
use Rattle.life_runs.specs.of_master_duty.Reply.{Reply}
use Rattle.life_runs.specs.of_master_hand.Spoken.{Asked}
use Rattle.life_runs.specs.of_master_side.Shown.{HasOver}
use Rattle.life_runs.specs.of_segment_model.Ends.{Outcome}
use Rattle.life_runs.specs.of_state_model.Accounts.{Account, Duty}
use Rattle.master_node.specs.declared.changed.Changed.{Changed}

-- by the account: none came into hand since the slave was opened; one is in hand; or the newest is over, and has this answer
abbrev pub TellsChange : Changed → Account Asked Reply → Type 0
TellsChange Changed.Nothing b = (b.hand ≡ None) × (b.over ≡ [])
TellsChange Changed.Going b = (d : Duty) × (b.hand ≡ Some d)
TellsChange Changed.Reached b = (b.hand ≡ None) × HasOver b.over Outcome.Reached
TellsChange (Changed.Refused code) b = (b.hand ≡ None) × HasOver b.over (Outcome.Refused code)
