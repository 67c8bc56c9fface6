use Rattle.std.proofs.Common.{◌≡◌, ◌≤◌, ◌-◌, ◌++◌, length, take, drop, min}
use Rattle.block_pool.proofs.chain.Chain.append_to.Given as goal

abbrev pub invariant-loop-done : goal.invariant-loop-done
invariant-loop-done g l =
    (l.done ≤ l.count) × (l.count ≡ min (length l.self.octets - l.at) l.most) × (l.into.items ≡ l.fn.into.items ++ take l.done (drop l.at l.self.octets))

abbrev pub decreases-loop-done : goal.decreases-loop-done
decreases-loop-done g l = l.count - l.done
