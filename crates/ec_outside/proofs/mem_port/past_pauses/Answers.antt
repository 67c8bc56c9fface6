use Rattle.std.proofs.Common.{◌∙◌, arith}
use Rattle.ec_outside.proofs.HeardItems.{left_pause, heard_pause}
use Rattle.ec_outside.proofs.mem_port.past_pauses.Goals as goal

pub loop-at-preserved : goal.loop-at-preserved
loop-at-preserved c = (
  left_pause c.args.items.now c.loop-at.at c.index-items-at.result (grind arith) c.index-items-at.is c.in-Pause.is ∙ c.loop-at.invariant.0,
  heard_pause c.args.items.now c.loop-at.at c.index-items-at.result (grind arith) c.index-items-at.is c.in-Pause.is ∙ c.loop-at.invariant.1,
)
