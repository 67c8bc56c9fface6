use Rattle.slave_node.proofs.Passes.{unread}
use Rattle.slave_node.proofs.frame_pass.pass.Goals as goal

pub returns-else-is_none-clause-passes : goal.returns-else-is_none-clause-passes
returns-else-is_none-clause-passes c = λ ds f. absurd (unread c.args.frame.now.items c.as_slice.result.now c.fault.result c.as_slice.ensures.value c.fault.ensures.fault c.if-is_none.ensures ds f)
