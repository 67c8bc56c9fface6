use Rattle.std.proofs.Common.{◌∙◌, arith}
use Rattle.datagrams.proofs.Walking.{zeros_on}
use Rattle.datagrams.proofs.writing.append_blocks.Goals as goal

pub loop-frame-preserved : goal.loop-frame-preserved
loop-frame-preserved c =
    let room = c.loop-frame-test.true in
    let len = c.len.ensures.value in
    zeros_on _ _ c.args.end c.append.ensures (omega arith) ∙ c.loop-frame.invariant
