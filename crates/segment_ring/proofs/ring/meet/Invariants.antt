use Rattle.std.proofs.Common.{◌≡◌, ◌-◌, ◌++◌, ℕ, length, take, drop}
use Rattle.segment_ring.specs.Ring.{AllFew, nodes_passed}
use Rattle.segment_ring.proofs.ring.meet.Given as goal

abbrev pub invariant-loop-at : goal.invariant-loop-at
invariant-loop-at g l =
    (length l.nodes ≡ length l.initial.nodes)
    × (let met = nodes_passed g.N.Slave.passed (l.count - l.at) (drop l.at l.nodes) l.frame.items in nodes_passed g.N.Slave.passed l.count l.initial.nodes l.initial.frame.items ≡ (take l.at l.nodes ++ met.0, met.1))
    × ((most : ℕ) → AllFew g.N.Slave.handled most l.initial.nodes → AllFew g.N.Slave.handled most l.nodes)
