use Rattle.block_pool.proofs.Packed.{boxes_count}
use Rattle.block_pool.proofs.chain.Chain.len.Goals as goal

pub returns-clause-blocks : goal.returns-clause-blocks
returns-clause-blocks c = rw (← c.self.view_is) (boxes_count c.self.inside.blocks.items c.self.invariant.packed)
