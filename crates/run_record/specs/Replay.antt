-- The frames of a run, replayed by the ring of the plan's slaves.
use Rattle.std.specs.Prelude.{◌≡◌, ℕ, List, [], ◌∷◌, map}
use Rattle.packets_heard.specs.of_segment_plan.declared.plan.Scenario.{Scenario}
use Rattle.served_places.specs.of_segment_ring.Ring.{RingState, ring_behind, ring_returned}
use Rattle.served_places.specs.of_segment_ring.Schedule.{fate_at}
use Rattle.packets_heard.specs.of_slave_node.Node.{Node, node_passed}
use Rattle.packets_heard.specs.of_slave_node.Step.{pdi_step}
use Rattle.packets_heard.specs.of_slave_server.Serving.{takes, next_mail, rest, cleared}
use Rattle.packets_heard.specs.of_slave_server.Spec.{node_of}
use Rattle.packets_heard.specs.of_slave_server.declared.server.SlaveServer.{SlaveServer}
use Rattle.run_notes.specs.of_run_book.declared.book.SentFrame.{SentFrame}

-- a processor step of a slave
abbrev pub stepped : Node SlaveServer → Node SlaveServer
stepped = pdi_step takes next_mail rest cleared

-- the slaves of a plan as they are switched on, in their ring before its first frame
abbrev pub first_ring : Scenario → RingState (Node SlaveServer)
first_ring plan = record { nodes = map node_of plan.slaves; paces = plan.paces; lose = plan.lose; number = 0 }

-- a ring behind a frame that was sent
abbrev pub behind : RingState (Node SlaveServer) → List ℕ → RingState (Node SlaveServer)
behind ring sent = ring_behind node_passed stepped ring sent

-- a frame as it is recorded: its fate by the schedule, and what the ring gave back of it
pub record IsRecorded (ring : RingState (Node SlaveServer)) (f : SentFrame) : Type 0 where
  pub fate : f.fate ≡ fate_at ring.lose ring.number
  pub back : f.back ≡ ring_returned node_passed ring f.sent

-- a ring behind the frames of a record
abbrev pub ring_after : RingState (Node SlaveServer) → List SentFrame → RingState (Node SlaveServer)
ring_after ring [] = ring
ring_after ring (f ∷ fs) = ring_after (behind ring f.sent) fs

-- THE REPLAY: each frame of a record is as the ring behind the frames before gives it
abbrev pub AreRecorded : RingState (Node SlaveServer) → List SentFrame → Type 0
AreRecorded ring [] = Unit {0}
AreRecorded ring (f ∷ fs) = IsRecorded ring f × AreRecorded (behind ring f.sent) fs
