use Rattle.block_pool.proofs.Copied.{append_step, append_ends}
use Rattle.block_pool.proofs.chain.Chain.append_to.Goals as goal

pub loop-done-preserved : goal.loop-done-preserved
loop-done-preserved g c =
    append_step c.args.self.now.octets c.loop-done.into.items c.append.new.buffer.items c.args.into.now.items c.piece-piece.result.now c.args.at c.args.most c.loop-done.done
    c.min-some.result c.min-count.result c.loop-done.invariant.0 c.loop-done.invariant.1 c.loop-done.invariant.2
    c.piece-piece.ensures.part c.min-some.ensures c.append.ensures

pub returns : goal.returns
returns g c =
    append_ends c.args.self.now.octets c.loop-done.into.items c.args.into.now.items c.args.at c.args.most c.loop-done.done c.min-count.result
    c.loop-done.invariant.0 c.loop-done.invariant.1 c.loop-done.invariant.2 c.loop-done-test.false
