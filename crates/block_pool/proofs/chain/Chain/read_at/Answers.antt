use Rattle.block_pool.proofs.Copied.{copy_step}
use Rattle.block_pool.proofs.chain.Chain.read_at.Goals as goal

pub loop-done-preserved : goal.loop-done-preserved
loop-done-preserved c =
    copy_step c.args.self.now.octets c.loop-done.into c.put_part.new.into c.args.into.now c.piece-piece.result.now c.args.at c.loop-done.done
    c.min-some.result c.min-count.result c.loop-done.invariant.0 c.loop-done.invariant.1 c.loop-done.invariant.2 c.loop-done.invariant.3
    c.piece-piece.ensures.part c.min-some.ensures c.put_part.ensures
