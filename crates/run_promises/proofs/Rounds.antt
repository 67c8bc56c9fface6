-- THE FIRST OF FRAMES that went round a ring went round it.
use Rattle.std.proofs.Common.{List, [], ◌∷◌, ◌++◌}
use Rattle.packets_heard.specs.of_life_runs.Led.{Exchanged}
use Rattle.served_rings.specs.of_plan_ring.Round.{AllRound, behind}
use Rattle.packets_heard.specs.of_segment_ring.Ring.{RingState}
use Rattle.packets_heard.specs.of_slave_server.Serving.{Serving}
use Rattle.packets_heard.specs.of_slave_node.Node.{Node}

pub first_round : (ring : RingState (Node Serving)) (fs others : List Exchanged) → AllRound ring (fs ++ others) → AllRound ring fs
first_round ring [] others round = tt
first_round ring (f ∷ fs) others round = (round.0, first_round (behind ring f.sent) fs others round.1)
