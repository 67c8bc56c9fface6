use Rattle.master_node.proofs.Script.{script_next}
use Rattle.master_node.proofs.copies.script_of.Goals as goal

pub loop-row-preserved : goal.loop-row-preserved
loop-row-preserved c = script_next c.args.slave c.args.services.now c.loop-row.row-index c.row-item.result c.loop-row.script c.put.new.script c.loop-row-test.true c.row-item.is c.loop-row.invariant c.in_ok-put.ensures
