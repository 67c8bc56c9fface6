use Rattle.ecmbx_words.proofs.Put.{HasPut}
use Rattle.ecmbx_words.proofs.lines.say_lines.Given as goal

abbrev pub invariant-loop-line : goal.invariant-loop-line
invariant-loop-line g l = HasPut l.lines l.line-index (g.O.Sink.written l.fn.out) (g.O.Sink.written l.out) (g.O.Sink.sink_faults l.fn.out) (g.O.Sink.sink_faults l.out)
