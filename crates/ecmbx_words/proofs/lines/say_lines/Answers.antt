use Rattle.std.proofs.Common.{refl, inr}
use Rattle.ecmbx_words.proofs.Put.{next_line, front_of}
use Rattle.ecmbx_words.proofs.lines.say_lines.Goals as goal

pub returns-in-Err-Failed-clause-put : goal.returns-in-Err-Failed-clause-put
returns-in-Err-Failed-clause-put g c =
    let failed = rw c.in-Err-Failed.field-0-is at c.in-Err-Failed.ensures in
    let prefix = rw c.bytes.ensures at failed.content in
    inr (inr (
      refl,
      front_of c.args.lines.now c.loop-line.line-index c.line-item.result (g.O.Sink.written c.args.out.now) (g.O.Sink.written c.loop-line.out) (g.O.Sink.written c.put.new.self)
          (g.O.Sink.sink_faults c.args.out.now) (g.O.Sink.sink_faults c.loop-line.out) c.loop-line-test.true c.line-item.is prefix c.loop-line.invariant,
    ))

pub loop-line-preserved : goal.loop-line-preserved
loop-line-preserved g c =
    let wrote = rw c.bytes.ensures at c.in-Ok.ensures.content in
    next_line c.args.lines.now c.loop-line.line-index c.line-item.result (g.O.Sink.written c.args.out.now) (g.O.Sink.written c.loop-line.out) (g.O.Sink.written c.put.new.self)
    (g.O.Sink.sink_faults c.args.out.now) (g.O.Sink.sink_faults c.loop-line.out) (g.O.Sink.sink_faults c.put.new.self) c.loop-line-test.true c.line-item.is wrote c.in-Ok.ensures.later c.loop-line.invariant
