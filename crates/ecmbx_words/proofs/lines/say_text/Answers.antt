use Rattle.std.proofs.Common.{refl, inr, arith}
use Rattle.ecmbx_words.proofs.Put.{next_piece, piece_front}
use Rattle.ecmbx_words.proofs.lines.say_text.Goals as goal

pub loop-from-preserved : goal.loop-from-preserved
loop-from-preserved g c =
    next_piece c.args.text.now c.loop-from.from c.line_end-to.result (g.O.Sink.written c.args.out.now) (g.O.Sink.written c.loop-from.out) (g.O.Sink.written c.put.new.self)
    (g.O.Sink.sink_faults c.args.out.now) (g.O.Sink.sink_faults c.loop-from.out) (g.O.Sink.sink_faults c.put.new.self) (omega (arith, c.line_end-to.ensures.behind)) c.line_end-to.ensures.within c.in-Ok.ensures.content c.in-Ok.ensures.later c.loop-from.invariant

pub returns-in-Err-Failed-clause-put : goal.returns-in-Err-Failed-clause-put
returns-in-Err-Failed-clause-put g c =
    let failed = rw c.in-Err-Failed.field-0-is at c.in-Err-Failed.ensures in
    inr (inr (
      refl,
      piece_front c.args.text.now c.loop-from.from c.line_end-to.result (g.O.Sink.written c.args.out.now) (g.O.Sink.written c.loop-from.out) (g.O.Sink.written c.put.new.self)
          (g.O.Sink.sink_faults c.args.out.now) (g.O.Sink.sink_faults c.loop-from.out) (omega (arith, c.line_end-to.ensures.behind)) c.line_end-to.ensures.within failed.content c.loop-from.invariant,
    ))
