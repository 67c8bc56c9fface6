-- WHAT A MACHINE BUILDER MAY RELY ON of each slave of a plan, behind any frames of a run: which of its services came into hand, and what its
-- application has carried out of them.
use Rattle.std.specs.Prelude.{ℕ, suc, List, [], ◌∷◌, ⊤}
use Rattle.packets_heard.specs.of_life_model.Script.{life_started}
use Rattle.packets_heard.specs.of_protocol_models.Network.{Station}
use Rattle.packets_heard.specs.of_life_runs.First.{lens_of, spot_of, script_for}
use Rattle.packets_heard.specs.of_life_runs.Led.{Exchanged, Leads}
use Rattle.packets_heard.specs.of_master_duty.Reply.{Reply}
use Rattle.packets_heard.specs.of_master_hand.Spoken.{Asked, is_followed}
use Rattle.served_rings.specs.of_plan_ring.Asked.{asked}
use Rattle.served_rings.specs.of_plan_ring.Plan.{first_app}
use Rattle.packets_heard.specs.of_segment_plan.declared.plan.Scenario.{Scenario}
use Rattle.packets_heard.specs.of_segment_plan.declared.slave.SlaveSpec.{SlaveSpec}
use Rattle.served_rings.specs.of_plan_ring.Real.{real_clearing}
use Rattle.served_rings.specs.of_slave_lives.Lived.{Behind}
use Rattle.served_rings.specs.of_slave_parts.Parts.{Core, Server}
use Rattle.packets_heard.specs.of_slave_server.Serving.{Serving}
use Rattle.packets_heard.specs.of_slave_server.Spec.{profile_of}
use Rattle.packets_heard.specs.of_slave_node.Node.{Node}
use Rattle.packets_heard.specs.of_state_model.Families.{InState}
use Rattle.served_rings.specs.of_plan_ring.Round.{all_seen}
use Rattle.served_rings.specs.of_run_frames.Came.{Came, AreFirst}
use Rattle.served_rings.specs.of_plan_ring.Epochs.{IsKeptLife}

-- the services of a plan's slave, as its master asks for them
abbrev pub services_of : Scenario → SlaveSpec → Behind Serving (InState Server) (InState (Station Core)) Asked Reply
services_of plan s = asked (profile_of s) s.boot (lens_of plan.slaves)

-- OF ONE SLAVE at its place, as its master leads it, with its node: just the first services of its script came into hand, and packets among them; and
-- in each epoch of its life its application has carried out just the first of these, each once and in order, from the application of the plan on
pub record IsServed (plan : Scenario) (fs : List Exchanged) (place : ℕ) (s : SlaveSpec) (a : Leads) (n : Node Serving) : Type 0 where
  pub came : Came s.out_len (script_for place plan.services) a.number (life_started a.lived.life)
  pub firsts : AreFirst s.out_len (script_for place plan.services) a.number (life_started a.lived.life)
  pub life : IsKeptLife (services_of plan s) is_followed (spot_of place s) real_clearing.cleared (all_seen (lens_of plan.slaves) fs) (first_app s) a.lived.life n

-- OF ALL OF THEM, from a place on
abbrev pub AllServed : Scenario → List Exchanged → ℕ → List SlaveSpec → List Leads → List (Node Serving) → Type 0
AllServed plan fs place [] [] [] = ⊤
AllServed plan fs place (s ∷ ss) (a ∷ as') (n ∷ ns) = IsServed plan fs place s a n × AllServed plan fs (suc place) ss as' ns
AllServed plan fs place _ _ _ = ⊥
