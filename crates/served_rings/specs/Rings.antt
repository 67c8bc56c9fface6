-- THE RING OF A SERVING: its slaves, with the services that their nodes run, the lives that the master leads of them, and what its records keep.
use Rattle.std.specs.Prelude.{◌≡◌, ℕ, suc, List, [], ◌∷◌, map, take, ⊤}
use Rattle.run_work.specs.of_frame_view.View.{Lens}
use Rattle.served_rings.specs.LedRings.{Counters, AllLedMembers}
use Rattle.served_places.specs.of_life_runs.First.{lens_of, spot_of, script_for}
use Rattle.served_places.specs.of_life_runs.Led.{Exchanged}
use Rattle.run_work.specs.of_master_duty.Reply.{Reply}
use Rattle.run_work.specs.of_master_hand.Spoken.{Asked, is_followed, is_passed}
use Rattle.run_work.specs.of_plan_ring.Plan.{FitsPlan, plan_of, step}
use Rattle.run_work.specs.of_plan_ring.Round.{all_seen, ring_after, ring_of}
use Rattle.run_work.specs.of_segment_plan.declared.plan.Scenario.{Scenario}
use Rattle.run_work.specs.of_segment_plan.declared.slave.SlaveSpec.{SlaveSpec}
use Rattle.served_rings.specs.Serves.{serves}
use Rattle.served_rings.specs.StoodLives.{AllStoodMembers}
use Rattle.served_rings.specs.Clearing.{serves_clearing}
use Rattle.served_places.specs.of_life_runs.Served.{Serves}
use Rattle.run_work.specs.of_slave_parts.Parts.{Server}
use Rattle.run_work.specs.of_slave_server.Seen.{seen_in}
use Rattle.run_work.specs.of_slave_server.Serving.{Serving}
use Rattle.run_work.specs.of_slave_server.Spec.{profile_of, server_of}
use Rattle.run_work.specs.of_slave_node.Node.{Node}
use Rattle.served_places.specs.of_state_model.Families.{InState}
use Rattle.run_work.specs.of_whole_ring.Members.{Member, IsRing}

-- a slave of a serving in its ring
abbrev pub ServedMember : Type 0
ServedMember = Member Serving (InState Server) (InState Server) Asked Reply

-- THE SLAVE AT A PLACE: that of the plan, its life as the master leads it, its node as it runs
abbrev pub served_member : (ℕ → Lens) → ℕ → SlaveSpec → Serves → Node Serving → ServedMember
served_member lens place s w n = record {
  services = serves (profile_of s) s.boot lens;
  clearing = serves_clearing;
  plan = plan_of s;
  spot = spot_of place s;
  first = (seen_in 1 (server_of s)).server;
  life = w.lead.lived.life;
  node = n;
  pace = w.pace;
}

-- all of them, from a place on
abbrev pub served_members : (ℕ → Lens) → ℕ → List SlaveSpec → List Serves → List (Node Serving) → List ServedMember
served_members lens place (s ∷ ss) (w ∷ ws) (n ∷ ns) = served_member lens place s w n ∷ served_members lens (suc place) ss ws ns
served_members lens place _ _ _ = []

-- what its record keeps of it
abbrev pub counters_of : Serves → Counters
counters_of w = record { kept = w.kept; counts = w.counts }

-- it is led at its place, by its script
pub record IsServedAt (plan : Scenario) (place : ℕ) (s : SlaveSpec) (w : Serves) : Type 0 where
  pub spot : w.lead.lived.spot ≡ spot_of place s
  pub script : w.lead.script ≡ script_for place plan.services

-- each, from a place on; and each has a node
abbrev pub AllServedAt : Scenario → ℕ → List SlaveSpec → List Serves → List (Node Serving) → Type 0
AllServedAt plan place [] [] [] = ⊤
AllServedAt plan place (s ∷ ss) (w ∷ ws) (n ∷ ns) = IsServedAt plan place s w × AllServedAt plan (suc place) ss ws ns
AllServedAt plan place _ _ _ = ⊥

-- THE LIVES OF A SERVING that its master leads are lived by the nodes of the ring behind the frames, epoch by epoch as they were led
pub record AreServedLived (plan : Scenario) (fs : List Exchanged) (ws : List Serves) : Type 0 where
  pub nodes : List (Node Serving)
  pub lives : IsRing (lens_of plan.slaves) step (FitsPlan plan.slaves) (all_seen (lens_of plan.slaves) fs) (ring_after (ring_of plan) fs) (served_members (lens_of plan.slaves) 0 plan.slaves ws nodes)
  pub led : AllLedMembers is_followed is_passed (all_seen (lens_of plan.slaves) fs) (served_members (lens_of plan.slaves) 0 plan.slaves ws nodes) (map counters_of ws)
  pub at : AllServedAt plan 0 plan.slaves ws nodes

-- AND EACH EPOCH BEGINS WITH WHAT ITS SLAVE HAD, cleared, behind the frame that showed the return to Init before it; `stood` has the ring's nodes behind each number
-- of frames
pub record AreStoodLived (stood : ℕ → List (Node Serving)) (plan : Scenario) (fs : List Exchanged) (ws : List Serves) : Type 0 where
  pub nodes : List (Node Serving)
  pub lives : IsRing (lens_of plan.slaves) step (FitsPlan plan.slaves) (all_seen (lens_of plan.slaves) fs) (ring_after (ring_of plan) fs) (served_members (lens_of plan.slaves) 0 plan.slaves ws nodes)
  pub led : AllStoodMembers is_followed is_passed stood (all_seen (lens_of plan.slaves) fs) (served_members (lens_of plan.slaves) 0 plan.slaves ws nodes) (map counters_of ws)
  pub at : AllServedAt plan 0 plan.slaves ws nodes

-- the nodes of a plan's ring behind each number of these frames
abbrev pub nodes_behind : Scenario → List Exchanged → ℕ → List (Node Serving)
nodes_behind plan fs frames = (ring_after (ring_of plan) (take frames fs)).nodes
