use Rattle.std.proofs.Common.{sym}
use Rattle.slave_node.proofs.Skipped.{skips, skips_exact}
use Rattle.slave_node.proofs.frame_pass.pass_part.Goals as goal

pub returns-else-is_concerned-clause-passes : goal.returns-else-is_concerned-clause-passes
returns-else-is_concerned-clause-passes c = skips c.args.esc.now c.args.frame.now.items c.args.part.now (sym c.if-is_concerned.ensures)

pub returns-else-is_concerned-clause-exact : goal.returns-else-is_concerned-clause-exact
returns-else-is_concerned-clause-exact c = skips_exact c.args.esc.now c.args.frame.now.items c.args.part.now c.requires (sym c.if-is_concerned.ensures)
