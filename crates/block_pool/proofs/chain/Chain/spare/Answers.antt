use Rattle.std.proofs.Common.{◌≤◌, ◌+◌, ◌*◌, ap, length, arith}
use Rattle.block_pool.proofs.Packed.{boxes_bounds}
use Rattle.block_pool.proofs.chain.Chain.spare.Goals as goal

-- the octets are at most those of full blocks, and fewer by less than a block
bounds :
    (c : goal.After-as_slice)
    → (c.self.inside.len ≤ length c.as_slice.result.now * 128) × (length c.as_slice.result.now * 128 ≤ c.self.inside.len + 127)
bounds c =
    let b = boxes_bounds c.self.inside.blocks.items c.self.invariant.packed in
    let n = ap length c.as_slice.ensures.value in
    (omega (arith, b.0, c.self.invariant.len_is, n), omega (arith, b.1, c.self.invariant.len_is, n))

pub overflow_sub-result : goal.overflow_sub-result
overflow_sub-result c = (bounds c).0

pub returns-clause-spare : goal.returns-clause-spare
returns-clause-spare c =
    let n = ap length c.as_slice.ensures.value in
    rw (← c.self.view_is) (omega (arith, (bounds c).0, c.self.invariant.len_is, n))

pub returns-clause-few : goal.returns-clause-few
returns-clause-few c = omega (arith, (bounds c).1)
