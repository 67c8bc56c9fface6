-- THE FRAMES OF A BOOK went round the ring of the plan's slaves.
use Rattle.std.proofs.Common.{◌≡◌, List, [], ◌∷◌, map, refl}
use Rattle.gateway_run.specs.of_run_book.declared.book.SentFrame.{SentFrame}
use Rattle.run_promises.specs.Round as Round
use Rattle.run_promises.specs.Round.{AllRound}
use Rattle.gateway_run.specs.of_run_record.Led.{exchanged}
use Rattle.gateway_run.specs.of_run_record.Replay.{AreRecorded, ring_after, behind}
use Rattle.run_promises.specs.of_segment_ring.Ring.{RingState}
use Rattle.run_promises.specs.of_slave_server.Serving.{Serving}
use Rattle.run_promises.specs.of_slave_node.Node.{Node}

pub all_round : (ring : RingState (Node Serving)) (fs : List SentFrame) → AreRecorded ring fs → AllRound ring (map exchanged fs)
all_round ring [] recorded = tt
all_round ring (f ∷ fs) recorded = (record { fate = recorded.0.fate; back = recorded.0.back }, all_round (behind ring f.sent) fs recorded.1)

-- the ring behind them is the one that replays them
pub same_ring : (ring : RingState (Node Serving)) (fs : List SentFrame) → Round.ring_after ring (map exchanged fs) ≡ ring_after ring fs
same_ring ring [] = refl
same_ring ring (f ∷ fs) = same_ring (behind ring f.sent) fs
