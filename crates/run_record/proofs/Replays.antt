-- The replay with one more frame.
use Rattle.std.proofs.Common.{◌≡◌, ℕ, zero, suc, ◌+◌, List, [], ◌∷◌, ◌++◌, length, refl, ap, ◌∙◌, arith}
use Rattle.served_places.specs.of_segment_ring.Ring.{RingState, nodes_passed, nodes_stepped, frame_met}
use Rattle.served_places.specs.of_segment_ring.Schedule.{fate_at}
use Rattle.served_places.specs.of_segment_ring.declared.wire.Fate.{Fate}
use Rattle.served_places.specs.of_segment_ring.declared.wire.Fate.TheVariants.{Pass, Lost}
use Rattle.packets_heard.specs.of_slave_node.Node.{Node, node_passed}
use Rattle.packets_heard.specs.of_slave_server.declared.server.SlaveServer.{SlaveServer}
use Rattle.run_notes.specs.of_run_book.declared.book.SentFrame.{SentFrame}
use Rattle.run_record.specs.Replay.{stepped, behind, ring_after, IsRecorded, AreRecorded}

pub after_more : (r : RingState (Node SlaveServer)) (fs : List SentFrame) (f : SentFrame) → ring_after r (fs ++ f ∷ []) ≡ behind (ring_after r fs) f.sent
after_more r [] f = refl
after_more r (g ∷ fs) f = after_more (behind r g.sent) fs f

pub recorded_more : (r : RingState (Node SlaveServer)) (fs : List SentFrame) (f : SentFrame) → AreRecorded r fs → IsRecorded (ring_after r fs) f → AreRecorded r (fs ++ f ∷ [])
recorded_more r [] f all one = (one, tt)
recorded_more r (g ∷ fs) f all one = (all.0, recorded_more (behind r g.sent) fs f all.1 one)

-- a ring counts its frames
pub number_after : (r : RingState (Node SlaveServer)) (fs : List SentFrame) → (ring_after r fs).number ≡ r.number + length fs
number_after r [] = omega arith
number_after r (f ∷ fs) = let rest = number_after (behind r f.sent) fs in omega (arith, rest)

module _ {N : Type 0} (passed : N → List ℕ → N × List ℕ) where
  length_passed : (count : ℕ) (nodes : List N) (octets : List ℕ) → length (nodes_passed passed count nodes octets).0 ≡ length nodes
  length_passed zero nodes octets = refl
  length_passed (suc count) [] octets = refl
  length_passed (suc count) (n ∷ nodes) octets = ap suc (length_passed count nodes (passed n octets).1)

  length_met : (nodes : List N) (octets : List ℕ) (fate : Fate) → length (frame_met passed nodes octets fate).0 ≡ length nodes
  length_met nodes octets Pass = length_passed (length nodes) nodes octets
  length_met nodes octets (Lost after) = length_passed after nodes octets

length_stepped : {N : Type 0} (stepped : N → N) (paces : List ℕ) (number : ℕ) (nodes : List N) → length (nodes_stepped stepped paces number nodes) ≡ length nodes
length_stepped stepped [] number nodes = refl
length_stepped stepped (pace ∷ paces) number [] = refl
length_stepped stepped (pace ∷ paces) number (n ∷ nodes) = ap suc (length_stepped stepped paces number nodes)

-- no frame changes how many slaves a ring has
pub length_behind : (r : RingState (Node SlaveServer)) (sent : List ℕ) → length (behind r sent).nodes ≡ length r.nodes
length_behind r sent =
    length_stepped stepped r.paces r.number (frame_met node_passed r.nodes sent (fate_at r.lose r.number)).0 ∙ length_met node_passed r.nodes sent (fate_at r.lose r.number)

pub length_after : (r : RingState (Node SlaveServer)) (fs : List SentFrame) → length (ring_after r fs).nodes ≡ length r.nodes
length_after r [] = refl
length_after r (f ∷ fs) = length_after (behind r f.sent) fs ∙ length_behind r f.sent
