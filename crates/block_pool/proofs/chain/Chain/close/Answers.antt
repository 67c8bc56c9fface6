use Rattle.block_pool.proofs.Packed.{boxes_count}
use Rattle.block_pool.proofs.chain.Chain.close.Goals as goal

pub returns-clause-count : goal.returns-clause-count
returns-clause-count c = rw (← c.self.view_is) (boxes_count c.self.inside.blocks.items c.self.invariant.packed)
