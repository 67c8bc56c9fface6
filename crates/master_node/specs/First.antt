-- THE SLAVES OF A PLAN as a master has them before the first frame.
use Rattle.std.specs.Prelude.{◌≡◌, ℕ, true, None, List}
use Rattle.life_runs.specs.of_frame_view.View.{Lens}
use Rattle.life_runs.specs.Led.{new_leads}
use Rattle.life_runs.specs.First.{spot_of, script_for}
use Rattle.life_runs.specs.of_mailbox_master.Any.{in_area_len}
use Rattle.life_runs.specs.of_master_hand.Shown.{Shows, knows}
use Rattle.life_runs.specs.of_master_hand.Spoken.{hand_speech}
use Rattle.life_runs.specs.of_master_hand.declared.hand.InHand.{InHand}
use Rattle.life_runs.specs.of_master_side.Shown.{SideShows, new_side}
use Rattle.life_runs.specs.of_master_side.declared.hand.Hand.{Ghosts}
use Rattle.life_runs.specs.of_master_side.declared.side.Side.{Side}
use Rattle.life_runs.specs.of_master_tour.declared.stop.Stop.{Stop}
use Rattle.life_runs.specs.of_segment_plan.declared.plan.Scenario.{Scenario}
use Rattle.life_runs.specs.of_segment_plan.declared.service.Service.{Service}
use Rattle.life_runs.specs.of_segment_plan.declared.slave.SlaveSpec.{SlaveSpec}
use Rattle.life_runs.specs.of_state_model.Accounts.{new_account}
use Rattle.master_node.specs.Shows.{IsLead}

-- a slave's side: its mailboxes and services are new, and its script begins
pub record IsNewSide {G : Ghosts InHand} (rows : List (ℕ × Service)) (place : ℕ) (spec : SlaveSpec) (s : Side InHand G) : Type 0 where
  pub shown : SideShows (Shows s.hand.course s.hand.which s.hand.clients (hand_speech (record { out = spec.out_len; back = spec.in_len }))) s.out s.inn s.fresh s.duty new_side new_account
  pub out : s.out.len ≡ spec.out_len
  pub back : in_area_len s.inn ≡ spec.in_len
  pub station : s.station ≡ spec.station
  pub script : s.hand.laying.script ≡ script_for place rows
  pub number : s.hand.laying.number ≡ 0
  pub unpassed : s.passing ≡ None
  pub unfinished : s.hand.found.join ≡ None
  pub known : knows s.hand.course ≡ true

-- A SLAVE at this place before its bring-up: where these are the lengths of its mailboxes its master leads it from the start of its life, and no
-- packet of it is unfinished, and its hand knows its mails
abbrev pub IsFirst : {G : Ghosts InHand} → Scenario → ℕ → SlaveSpec → Stop InHand G → Type 0
IsFirst plan place spec s = ((lens : ℕ → Lens) → (lens spec.station).out ≡ spec.out_len → (lens spec.station).back ≡ spec.in_len → IsLead lens plan.recover (new_leads (script_for place plan.services) (spot_of place spec)) s) × (s.side.hand.found.join ≡ None) × (knows s.side.hand.course ≡ true)
