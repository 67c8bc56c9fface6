use Rattle.std.proofs.Common.{◌≡◌, take}
use Rattle.master_node.specs.Scripts.{script_for}
use Rattle.master_node.proofs.copies.script_of.Given as goal

abbrev pub invariant-loop-row : goal.invariant-loop-row
invariant-loop-row l = l.script ≡ script_for l.slave (take l.row-index l.services)
