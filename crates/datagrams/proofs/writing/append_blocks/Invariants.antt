use Rattle.std.proofs.Common.{◌≡◌, ◌-◌, ◌++◌, length, replicate}
use Rattle.datagrams.proofs.writing.append_blocks.Given as goal

abbrev pub invariant-loop-frame : goal.invariant-loop-frame
invariant-loop-frame l =
    l.frame.items ++ replicate (l.end - length l.frame.items) 0 ≡ l.fn.frame.items ++ replicate (l.end - length l.fn.frame.items) 0

abbrev pub decreases-loop-frame : goal.decreases-loop-frame
decreases-loop-frame l = l.end - length l.frame.items
