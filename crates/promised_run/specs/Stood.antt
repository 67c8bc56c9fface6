-- WHAT THE SLAVES OF THE RING THAT REPLAYS FRAMES SERVED, and what stood as each epoch that is over ended.
use Rattle.std.specs.Prelude.{ℕ, List, take}
use Rattle.gateway_run.specs.of_run_book.declared.book.SentFrame.{SentFrame}
use Rattle.gateway_run.specs.of_run_record.Replay.{first_ring, ring_after}
use Rattle.run_promises.specs.of_segment_plan.declared.plan.Scenario.{Scenario}
use Rattle.seen_slaves.specs.of_served_rings.Stood.{ServeStood}
use Rattle.run_promises.specs.of_life_runs.Served.{Serves}
use Rattle.run_promises.specs.of_slave_server.Serving.{Serving}
use Rattle.run_promises.specs.of_slave_node.Node.{Node}

-- the nodes of that ring behind each number of these frames
abbrev pub nodes_through : Scenario → List SentFrame → ℕ → List (Node Serving)
nodes_through plan fs frames = (ring_after (first_ring plan) (take frames fs)).nodes

-- BEHIND THESE FRAMES each slave has carried out just the first of what came into hand of it, epoch by epoch, and as an epoch ended, behind the frame that showed its
-- return to Init, the slave's node held what was carried out of it; and one that was given up for good while it was open has the AL state of what was carried out
abbrev pub StoodBehind : Scenario → List SentFrame → List Serves → Type 0
StoodBehind plan fs ws = ServeStood (nodes_through plan fs) plan.slaves ws (ring_after (first_ring plan) fs).nodes
