use Rattle.std.proofs.Common.{◌≡◌, ◌+◌, ◌++◌, length, take, drop}
use Rattle.segment_ring.specs.Ring.{AllFew, nodes_stepped}
use Rattle.segment_ring.proofs.ring.step.Given as goal

abbrev pub invariant-loop-at : goal.invariant-loop-at
invariant-loop-at g l =
    (length l.nodes ≡ length l.initial.nodes)
    × (drop l.at l.nodes ≡ drop l.at l.initial.nodes)
    × (nodes_stepped g.N.Slave.stepped l.paces l.number l.initial.nodes ≡ take l.at l.nodes ++ nodes_stepped g.N.Slave.stepped (drop l.at l.paces) l.number (drop l.at l.nodes))
    × AllFew g.N.Slave.handled (9223372036854775808 + (l.number + 1)) (take l.at l.nodes)
