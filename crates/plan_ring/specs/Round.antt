-- THE FRAMES OF A RUN WENT ROUND THE RING of its slaves.
use Rattle.std.specs.Prelude.{◌≡◌, ℕ, List, [], ◌∷◌, map, ⊤}
use Rattle.whole_ring.specs.of_frame_view.View.{Lens}
use Rattle.whole_ring.specs.of_frame_view.Seen.{seen}
use Rattle.run_frames.specs.of_life_runs.Led.{Exchanged}
use Rattle.slave_server.specs.of_link_mails.Body.{Body}
use Rattle.plan_ring.specs.Plan.{step}
use Rattle.slave_server.specs.of_segment_model.Record.{Frame}
use Rattle.slave_server.specs.of_segment_plan.declared.plan.Scenario.{Scenario}
use Rattle.run_frames.specs.of_segment_ring.Ring.{RingState, ring_behind, ring_returned}
use Rattle.run_frames.specs.of_segment_ring.Schedule.{fate_at}
use Rattle.whole_ring.specs.of_slave_lives.Rings.{fate_seen}
use Rattle.slave_server.specs.Serving.{Serving}
use Rattle.slave_server.specs.Spec.{node_of}
use Rattle.slave_server.specs.of_slave_node.Node.{Node, node_passed}

-- the slaves of a plan as they are switched on, in their ring before its first frame
abbrev pub ring_of : Scenario → RingState (Node Serving)
ring_of plan = record { nodes = map node_of plan.slaves; paces = plan.paces; lose = plan.lose; number = 0 }

-- a ring behind a frame that was sent
abbrev pub behind : RingState (Node Serving) → List ℕ → RingState (Node Serving)
behind ring sent = ring_behind node_passed step ring sent

-- a frame as it went round: its fate is by the schedule, and what came back is what the ring gives back of it
pub record WentRound (ring : RingState (Node Serving)) (f : Exchanged) : Type 0 where
  pub fate : f.fate ≡ fate_at ring.lose ring.number
  pub back : f.back ≡ ring_returned node_passed ring f.sent

-- A RUN'S FRAMES went round, each the ring behind those before
abbrev pub AllRound : RingState (Node Serving) → List Exchanged → Type 0
AllRound ring [] = ⊤
AllRound ring (f ∷ fs) = WentRound ring f × AllRound (behind ring f.sent) fs

-- and the ring behind all of them
abbrev pub ring_after : RingState (Node Serving) → List Exchanged → RingState (Node Serving)
ring_after ring [] = ring
ring_after ring (f ∷ fs) = ring_after (behind ring f.sent) fs

-- a frame as all sessions see it
abbrev pub frame_seen : (ℕ → Lens) → Exchanged → Frame Body
frame_seen lens f = record { sent = seen lens f.sent; fate = fate_seen f.fate; back = seen lens f.back }

-- frames, one behind the other
abbrev pub all_seen : (ℕ → Lens) → List Exchanged → List (Frame Body)
all_seen lens fs = map (frame_seen lens) fs
