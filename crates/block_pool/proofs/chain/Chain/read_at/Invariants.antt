use Rattle.std.proofs.Common.{◌≡◌, ◌≤◌, ◌-◌, length, take, drop, min}
use Rattle.block_pool.proofs.chain.Chain.read_at.Given as goal

abbrev pub invariant-loop-done : goal.invariant-loop-done
invariant-loop-done l =
    (l.done ≤ l.count) × (l.count ≡ min (length l.self.octets - l.at) (length l.into)) × (take l.done l.into ≡ take l.done (drop l.at l.self.octets))
    × (drop l.done l.into ≡ drop l.done l.fn.into)

abbrev pub decreases-loop-done : goal.decreases-loop-done
decreases-loop-done l = l.count - l.done
