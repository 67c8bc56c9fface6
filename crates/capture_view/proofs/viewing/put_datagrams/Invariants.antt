use Rattle.std.proofs.Common.{Ok, ◌-◌, length}
use Rattle.datagrams.specs.Frame.{IsPart, parts_of}
use Rattle.capture_view.specs.View.{Told, parts_lines}
use Rattle.capture_view.proofs.viewing.put_datagrams.Given as goal

abbrev pub invariant-datagrams : goal.invariant-datagrams
invariant-datagrams g l =
    (p : IsPart l.frame l.part)
    × Told g.O.Sink.written g.O.Sink.sink_faults l.fn.sink l.sink (parts_lines l.frame (parts_of 16 p.front)) (Ok tt)

abbrev pub decreases-datagrams : goal.decreases-datagrams
decreases-datagrams g l = length l.frame - l.part.at
