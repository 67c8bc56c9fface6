-- NOTHING IS LEFT of a slave: all of its script came into hand and is carried out.
use Rattle.std.specs.Prelude.{◌≡◌, ℕ, suc, true, not, None, List, [], ◌∷◌, filter, length, ⊤}
use Rattle.packets_heard.specs.of_life_model.Script.{life_started}
use Rattle.packets_heard.specs.of_protocol_models.Network.{Station}
use Rattle.packets_heard.specs.of_frame_view.View.{Lens}
use Rattle.packets_heard.specs.of_life_model.Lives.{Stand}
use Rattle.packets_heard.specs.of_life_runs.First.{lens_of, spot_of, script_for}
use Rattle.packets_heard.specs.of_life_runs.Led.{Exchanged, Leads, speech_at}
use Rattle.packets_heard.specs.of_master_hand.Spoken.{is_followed}
use Rattle.served_rings.specs.of_plan_ring.Plan.{first_app}
use Rattle.packets_heard.specs.of_segment_model.Laws.{WantsNothing}
use Rattle.packets_heard.specs.of_segment_plan.declared.plan.Scenario.{Scenario}
use Rattle.packets_heard.specs.of_segment_plan.declared.slave.SlaveSpec.{SlaveSpec}
use Rattle.served_rings.specs.of_plan_ring.Real.{real_clearing}
use Rattle.served_rings.specs.of_slave_parts.Parts.{Core}
use Rattle.packets_heard.specs.of_slave_server.Serving.{Serving, next_mail}
use Rattle.packets_heard.specs.of_slave_node.Node.{Node, is_settled}
use Rattle.packets_heard.specs.of_state_model.Families.{InState}
use Rattle.served_rings.specs.of_plan_ring.Round.{all_seen}
use Rattle.served_rings.specs.of_run_frames.Came.{AreThose, is_packet}
use Rattle.served_rings.specs.of_plan_ring.Epochs.{AreKept, NothingLeft, app_of}
use Rattle.run_promises.specs.Slaves.{services_of}

-- THE MASTER WANTS NOTHING of a slave: it is open, no service is in hand and none is left of its script, and both halves of its link are idle
pub record IsIdle (lens : ℕ → Lens) (a : Leads) : Type 0 where
  pub stand : a.lived.life.stand ≡ Stand.Open
  pub side : WantsNothing (speech_at lens a.lived.spot) a.lived.life.era.side
  pub hand : a.lived.life.era.account.hand ≡ None
  pub script : a.number ≡ length a.script

-- ALL IS DONE of a slave: the services of its script came into hand, all of them, and those of its newest epoch are carried out and answered
pub record IsDone (plan : Scenario) (fs : List Exchanged) (place : ℕ) (s : SlaveSpec) (a : Leads) (n : Node Serving) : Type 0 where
  pub all : AreThose s.out_len (script_for place plan.services) (filter (λ q. not (is_packet q)) (life_started a.lived.life))
  pub from : InState (Station Core)
  pub past : AreKept (services_of plan s) is_followed (spot_of place s) real_clearing.cleared (all_seen (lens_of plan.slaves) fs) (first_app s) a.lived.life.past from
  pub newest : NothingLeft (services_of plan s) is_followed (spot_of place s) (all_seen (lens_of plan.slaves) fs) a.lived.life.era from (app_of (services_of plan s) is_followed (spot_of place s) n)

-- so it is of each slave, from a place on, that is settled and of which the master wants nothing
abbrev pub AllDoneIf : Scenario → List Exchanged → ℕ → List SlaveSpec → List Leads → List (Node Serving) → Type 0
AllDoneIf plan fs place [] [] [] = ⊤
AllDoneIf plan fs place (s ∷ ss) (a ∷ as') (n ∷ ns) = (IsIdle (lens_of plan.slaves) a → is_settled next_mail n ≡ true → IsDone plan fs place s a n) × AllDoneIf plan fs (suc place) ss as' ns
AllDoneIf plan fs place _ _ _ = ⊥
