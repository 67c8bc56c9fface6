use Rattle.std.proofs.Common.{◌≡◌, ◌-◌, ◌++◌, length, replicate}
use Rattle.datagrams.proofs.writing.pad.Given as goal

abbrev pub invariant-loop-frame : goal.invariant-loop-frame
invariant-loop-frame l =
    l.frame.items ++ replicate (60 - length l.frame.items) 0 ≡ l.fn.frame.items ++ replicate (60 - length l.fn.frame.items) 0

abbrev pub decreases-loop-frame : goal.decreases-loop-frame
decreases-loop-frame l = 60 - length l.frame.items
