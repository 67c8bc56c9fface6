-- WHAT IS DONE OF A SLAVE OF A SERVING of which its master wants nothing any more.
use Rattle.std.specs.Prelude.{◌≡◌, ℕ, suc, Bool, true, None, List, [], ◌∷◌, length, ⊤}
use Rattle.served_places.specs.of_life_model.Script.{life_started}
use Rattle.run_work.specs.of_frame_view.View.{Lens}
use Rattle.run_work.specs.of_frames_seen.Slaves.{registers_seen}
use Rattle.served_places.specs.of_life_model.Lives.{Era, Stand}
use Rattle.served_places.specs.of_life_runs.First.{lens_of, script_for}
use Rattle.served_places.specs.of_life_runs.Led.{speech_at}
use Rattle.served_places.specs.of_link_mails.Body.{Body}
use Rattle.run_work.specs.of_master_duty.Reply.{Reply}
use Rattle.run_work.specs.of_master_hand.Spoken.{Asked}
use Rattle.run_work.specs.Lives.{first_server}
use Rattle.served_places.specs.of_segment_model.Laws.{WantsNothing}
use Rattle.run_work.specs.of_segment_plan.declared.plan.Scenario.{Scenario}
use Rattle.run_work.specs.of_segment_plan.declared.slave.SlaveSpec.{SlaveSpec}
use Rattle.served_rings.specs.Served.{AreServedEras, NothingLeft, WasServed}
use Rattle.served_rings.specs.Stood.{AllHeld}
use Rattle.served_rings.specs.StoodLives.{IsFirst, others}
use Rattle.served_places.specs.of_life_runs.Came.{AreAmong, ServedCame}
use Rattle.served_places.specs.of_life_runs.Served.{Keyed, Serves}
use Rattle.run_work.specs.of_slave_model.Profile.{Profile}
use Rattle.run_work.specs.of_slave_parts.Parts.{Server}
use Rattle.run_work.specs.of_slave_server.Serving.{Serving, next_mail}
use Rattle.run_work.specs.of_slave_server.Spec.{profile_of}
use Rattle.run_work.specs.of_slave_node.Node.{Node, is_settled}
use Rattle.served_places.specs.of_state_model.Families.{InState}

-- THE MASTER WANTS NOTHING of a slave: it is open, no service is in hand and none is left of its script, both halves of its link are idle, and no mail that is
-- passed on is in hand or waits
pub record IsServedIdle (lens : ℕ → Lens) (w : Serves) : Type 0 where
  pub stand : w.lead.lived.life.stand ≡ Stand.Open
  pub side : WantsNothing (speech_at lens w.lead.lived.spot) w.lead.lived.life.era.side
  pub hand : w.lead.lived.life.era.account.hand ≡ None
  pub script : w.lead.number ≡ length w.lead.script
  pub waits : w.waits ≡ []
  pub over : w.lead.lived.life.era.passing ≡ None

-- AN OPEN EPOCH OF WHICH NOTHING IS LEFT: what its slave left is what the node has, and all its rows are carried out
pub record IsServedWhole (p : Profile) (boot : Bool) (station start : ℕ) (from : InState Server) (e : Era Body Asked Reply) (n : Node Serving) : Type 0 where
  pub left : InState Server
  pub done : InState Server
  pub inner : left.inner ≡ n.server.server
  pub state : left.state ≡ (registers_seen n.registers).state
  pub was : WasServed p boot station start from e left done
  pub nothing : NothingLeft p boot station (record from { state = was.state }) e done

-- ALL IS DONE of a slave: its whole script came into hand, with packets and with these mails, which are those that were asked of it, in order, and all of them
-- where it was never given up; and all rows of its newest epoch are carried out, from what the epochs before it left, which its node held as each of them ended
pub record IsServedDone (stood : ℕ → Node Serving → Type 0) (plan : Scenario) (place : ℕ) (s : SlaveSpec) (w : Serves) (n : Node Serving) : Type 0 where
  pub mails : List Keyed
  pub came : ServedCame s.out_len (script_for place plan.services) (length (script_for place plan.services)) mails (life_started w.lead.lived.life)
  pub among : AreAmong mails w.asked
  pub all : w.lead.lived.life.gave ≡ [] → w.asked ≡ mails
  pub from : InState Server
  pub past : AreServedEras (profile_of s) s.boot s.station s.start (first_server s) w.lead.lived.life.past from
  pub held : AllHeld (profile_of s) s.boot s.station stood s.start (first_server s) w.lead.lived.life.past from past w.lead.lived.life.era.cleared
  pub newest : IsServedWhole (profile_of s) s.boot s.station s.start from w.lead.lived.life.era n

-- so it is of each slave, from a place on, that is settled and of which the master wants nothing, by the nodes of these slaves behind each number of frames
abbrev pub AllServedDoneIf : (ℕ → List (Node Serving)) → Scenario → ℕ → List SlaveSpec → List Serves → List (Node Serving) → Type 0
AllServedDoneIf stood plan place [] [] [] = ⊤
AllServedDoneIf stood plan place (s ∷ ss) (w ∷ ws) (n ∷ ns) =
    (IsServedIdle (lens_of plan.slaves) w → is_settled next_mail n ≡ true → IsServedDone (IsFirst stood) plan place s w n) × AllServedDoneIf (others stood) plan (suc place) ss ws ns
AllServedDoneIf stood plan place _ _ _ = ⊥
