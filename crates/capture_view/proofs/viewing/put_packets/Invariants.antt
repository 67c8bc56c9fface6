use Rattle.std.proofs.Common.{Ok, take}
use Rattle.capture_view.specs.View.{Told, packets_lines}
use Rattle.capture_view.proofs.viewing.put_packets.Given as goal

abbrev pub invariant-loop-number : goal.invariant-loop-number
invariant-loop-number g l =
    Told g.O.Sink.written g.O.Sink.sink_faults l.fn.sink l.sink
    (packets_lines l.file l.nanos 0 (take l.number l.packets)) (Ok tt)
