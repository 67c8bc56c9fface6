use Rattle.std.proofs.Common.{◌≡◌, ◌+◌, ◌-◌, ◌*◌, ◌<◌, ◌≤◌, ◌++◌, length, take, vec_capacity, All, true}
use Rattle.block_pool.specs.Blocks.{IsEmpty}
use Rattle.block_pool.proofs.pool.extend.Given as goal

abbrev pub invariant-loop-done : goal.invariant-loop-done
invariant-loop-done l =
    (l.chain.live ≡ true) × (l.chain.room ≡ l.fn.chain.room) × (l.done ≤ length l.bytes)
    × (l.chain.octets ≡ l.fn.chain.octets ++ take l.done l.bytes)
    × (l.chain.blocks + length l.free.items ≡ l.fn.chain.blocks + length l.fn.free.items)
    × (l.done < length l.bytes → length l.chain.octets ≡ 128 * l.chain.blocks)
    × All IsEmpty l.free.items × (vec_capacity l.fn.free ≤ vec_capacity l.free)
    × (length l.chain.octets ≤ 128 * l.chain.blocks) × (128 * l.chain.blocks ≤ length l.chain.octets + 127)

abbrev pub decreases-loop-done : goal.decreases-loop-done
decreases-loop-done l = length l.bytes - l.done
