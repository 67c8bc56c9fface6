-- THE REPLAY: the ring of the plan's new slaves, which the recorded frames meet one after the other.
use Rattle.std.specs.Prelude.{◌≡◌, ℕ, Option, Some, None, List, [], ◌∷◌, map, take, slice_get, ⊤}
use Rattle.run_book.specs.declared.book.SentFrame.{SentFrame}
use Rattle.segment_plan.specs.declared.plan.Scenario.{Scenario}
use Rattle.segment_plan.specs.declared.slave.SlaveSpec.{SlaveSpec}
use Rattle.segment_ring.specs.Ring.{RingState, ring_behind, ring_returned}
use Rattle.segment_ring.specs.Schedule.{fate_at}
use Rattle.slave_node.specs.Node.{Node, node_passed}
use Rattle.slave_node.specs.Step.{pdi_step}
use Rattle.slave_server.specs.Serving.{Serving, takes, next_mail, rest, cleared}
use Rattle.slave_server.specs.Spec.{node_of}
use Rattle.promise.specs.Application.{App}
use Rattle.promise.specs.First.{first_app}

-- a processor step of a slave
abbrev pub stepped : Node Serving → Node Serving
stepped = pdi_step takes next_mail rest cleared

-- the slaves of a plan as they are switched on, before the first frame
abbrev pub first_ring : Scenario → RingState (Node Serving)
first_ring plan = record { nodes = map node_of plan.slaves; paces = plan.paces; lose = plan.lose; number = 0 }

-- the ring behind frames
abbrev pub ring_after : RingState (Node Serving) → List SentFrame → RingState (Node Serving)
ring_after ring [] = ring
ring_after ring (f ∷ fs) = ring_after (ring_behind node_passed stepped ring f.sent) fs

-- EACH FRAME IS AS THE RING GIVES IT: its fate is the schedule's, and what came back is what the slaves made of it
abbrev pub AreReplayed : RingState (Node Serving) → List SentFrame → Type 0
AreReplayed ring [] = ⊤
AreReplayed ring (f ∷ fs) = (f.fate ≡ fate_at ring.lose ring.number) × (f.back ≡ ring_returned node_passed ring f.sent) × AreReplayed (ring_behind node_passed stepped ring f.sent) fs

-- the slaves behind so many frames
abbrev pub nodes_behind : Scenario → List SentFrame → ℕ → List (Node Serving)
nodes_behind plan fs n = (ring_after (first_ring plan) (take n fs)).nodes

-- what a slave holds for its services
abbrev pub app_in : SlaveSpec → Node Serving → App
app_in s n = record (first_app s) {
  objects = n.server.server.app.app.objects;
  files = n.server.server.app.app.files;
  idns = n.server.server.app.app.idns;
  block = n.server.server.app.app.block;
  al = n.al.state;
  handled = n.server.server.handled;
}

-- one that isn't there holds what it has at first
abbrev pub app_or_first : SlaveSpec → Option (Node Serving) → App
app_or_first s None = first_app s
app_or_first s (Some n) = app_in s n

-- WHAT THE SLAVE AT A PLACE HOLDS behind so many frames
abbrev pub app_held : Scenario → List SentFrame → ℕ → SlaveSpec → ℕ → App
app_held plan fs place s n = app_or_first s (slice_get (nodes_behind plan fs n) place)
