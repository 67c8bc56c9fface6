-- THE RING OF A PLAN: its slaves as they are switched on, with their lives before the first frame.
use Rattle.std.specs.Prelude.{◌≡◌, ℕ, suc, Some, List, [], ◌∷◌, length, ⊤}
use Rattle.whole_ring.specs.of_frame_view.View.{Lens}
use Rattle.slave_server.specs.of_protocol_models.Network.{Station}
use Rattle.slave_server.specs.of_state_model.Families.{InState}
use Rattle.run_frames.specs.of_master_duty.Reply as Master
use Rattle.run_frames.specs.of_master_hand.Spoken.{Asked}
use Rattle.whole_ring.specs.of_life_model.Lives.{Spot, new_life}
pub use Rattle.run_frames.specs.of_life_runs.First.{lens_of, spot_of, IsElsewhere, AreApart}
use Rattle.whole_ring.specs.of_life_model.Tours.{item_at}
use Rattle.slave_server.specs.of_segment_plan.Sound.{IsSlave}
use Rattle.slave_server.specs.of_segment_plan.declared.plan.Scenario.{Scenario}
use Rattle.slave_server.specs.of_segment_plan.declared.slave.SlaveSpec.{SlaveSpec}
use Rattle.whole_ring.specs.of_slave_lives.Opening as Opening
use Rattle.slave_server.specs.of_slave_parts.Parts.{Core, Server}
use Rattle.slave_server.specs.Serving.{Serving, takes, next_mail, rest, cleared}
use Rattle.slave_server.specs.Spec.{profile_of, server_of, node_of}
use Rattle.slave_server.specs.of_slave_node.Node.{Node}
use Rattle.slave_server.specs.of_slave_node.Step.{pdi_step}
use Rattle.plan_ring.specs.Real.{real_clearing}
use Rattle.plan_ring.specs.Rooms.{IsSound}
use Rattle.whole_ring.specs.Members.{Member}
use Rattle.plan_ring.specs.Asked.{asked}

-- a slave of a plan, with its services as the master asks for them
abbrev pub PlanMember : Type 0
PlanMember = Member Serving (InState Server) (InState (Station Core)) Asked Master.Reply

-- what the plan says of it
abbrev pub plan_of : SlaveSpec → Opening.Plan
plan_of s = record { station = s.station; out = s.out_len; back = s.in_len; start = s.start }

-- the application that its services act on as it is switched on, in Init
abbrev pub first_app : SlaveSpec → InState (Station Core)
first_app s = record { inner = (server_of s).server.app; state = 1 }

-- A SLAVE AS IT IS SWITCHED ON, at this place of the ring and of this pace
abbrev pub new_member : (ℕ → Lens) → ℕ → SlaveSpec → ℕ → PlanMember
new_member lens place s pace = record {
  services = asked (profile_of s) s.boot lens;
  clearing = real_clearing;
  plan = plan_of s;
  spot = spot_of place s;
  first = first_app s;
  life = new_life s.start;
  node = node_of s;
  pace = pace;
}

-- all of them, with their paces
abbrev pub new_members : (ℕ → Lens) → ℕ → List SlaveSpec → List ℕ → List PlanMember
new_members lens place (s ∷ ss) (pace ∷ paces) = new_member lens place s pace ∷ new_members lens (suc place) ss paces
new_members lens place _ _ = []

-- a processor step of a slave, as its ring makes it
abbrev pub step : Node Serving → Node Serving
step n = pdi_step takes next_mail rest cleared n

-- what always holds of the server at a place: it is a sound one of the profile of the plan's slave there
pub record FitsPlan (ss : List SlaveSpec) (spot : Spot) (s : Serving) : Type 0 where
  pub spec : SlaveSpec
  pub at : item_at spot.place ss ≡ Some spec
  pub sound : IsSound (profile_of spec) s

-- A PLAN'S SLAVE with these lengths at its station, and a MAC address
pub record IsPlanned (lens : ℕ → Lens) (s : SlaveSpec) : Type 0 where
  pub slave : IsSlave s
  pub mac : length s.mac ≡ 6
  pub out : (lens s.station).out ≡ s.out_len
  pub back : (lens s.station).back ≡ s.in_len

-- each of these
abbrev pub AllPlanned : (ℕ → Lens) → List SlaveSpec → Type 0
AllPlanned lens [] = ⊤
AllPlanned lens (s ∷ ss) = IsPlanned lens s × AllPlanned lens ss

-- each has a MAC address
abbrev pub AllMacs : List SlaveSpec → Type 0
AllMacs [] = ⊤
AllMacs (s ∷ ss) = (length s.mac ≡ 6) × AllMacs ss

-- THE SLAVES OF A PLAN as they are switched on
abbrev pub members_of : Scenario → List PlanMember
members_of plan = new_members (lens_of plan.slaves) 0 plan.slaves plan.paces
