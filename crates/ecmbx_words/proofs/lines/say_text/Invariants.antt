use Rattle.std.proofs.Common.{length, ◌-◌}
use Rattle.ecmbx_words.proofs.Put.{HasTold}
use Rattle.ecmbx_words.proofs.lines.say_text.Given as goal

abbrev pub invariant-loop-from : goal.invariant-loop-from
invariant-loop-from g l = HasTold l.text l.from (g.O.Sink.written l.fn.out) (g.O.Sink.written l.out) (g.O.Sink.sink_faults l.fn.out) (g.O.Sink.sink_faults l.out)

abbrev pub decreases-loop-from : goal.decreases-loop-from
decreases-loop-from g l = length l.text - l.from
