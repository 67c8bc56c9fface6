use Rattle.std.proofs.Common.{◌≡◌, ◌≤◌, length, vec_capacity, All}
use Rattle.block_pool.specs.Blocks.{IsEmpty}
use Rattle.block_pool.proofs.pool.free_blocks.Given as goal

abbrev pub invariant-loop : goal.invariant-loop
invariant-loop l = (length l.free.items ≡ l.counter) × All IsEmpty l.free.items × (l.blocks ≤ vec_capacity l.free)
