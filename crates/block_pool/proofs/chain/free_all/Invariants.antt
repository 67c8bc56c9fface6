use Rattle.std.proofs.Common.{◌≡◌, ◌≤◌, ◌+◌, vec_len, vec_capacity, All}
use Rattle.block_pool.specs.Blocks.{IsEmpty}
use Rattle.block_pool.proofs.chain.free_all.Given as goal

abbrev pub invariant-loop-block : goal.invariant-loop-block
invariant-loop-block l =
    (vec_len l.free + vec_len l.blocks ≡ vec_len l.initial.free + vec_len l.initial.blocks) × (vec_capacity l.initial.free ≤ vec_capacity l.free)
    × All IsEmpty l.free.items × (vec_capacity l.initial.blocks ≤ vec_capacity l.blocks)

abbrev pub decreases-loop-block : goal.decreases-loop-block
decreases-loop-block l = vec_len l.blocks
