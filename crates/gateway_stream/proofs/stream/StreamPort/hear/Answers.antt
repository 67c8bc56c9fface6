use Rattle.std.proofs.Common.{◌≡◌, Some, rules}
use Rattle.gateway_stream.specs.Hearing.{heard_of, is_broken}
use Rattle.gateway_stream.proofs.Asked.{turn_last, turn_more}
use Rattle.gateway_stream.proofs.Heard.{turned, turned_none}
use Rattle.gateway_stream.proofs.stream.StreamPort.hear.Goals as goal

pub returns-in-Some-clause-hears : goal.returns-in-Some-clause-hears
returns-in-Some-clause-hears g c =
    turned (heard_of (g.L.Link.given c.args.self.now.link) c.args.self.now.kept.items)
    (heard_of (g.L.Link.given c.loop.self.link) c.loop.self.kept.items)
    (heard_of (g.L.Link.given c.turn.new.self.link) c.turn.new.self.kept.items)
    c.turn.new.into.items c.turn.result c.in-Some.answer c.loop.invariant.heard c.turn.ensures.hears (search rules)

pub returns-in-Some-clause-asks : goal.returns-in-Some-clause-asks
returns-in-Some-clause-asks g c =
    let turned : c.turn.result ≡ Some c.in-Some.answer = search rules in
    let asks = rw turned at c.turn.ensures.asks in
    rw (← c.loop.invariant.same)
    (turn_last (g.L.Link.asked c.args.self.now.link) (g.L.Link.asked c.loop.self.link) (g.L.Link.asked c.turn.new.self.link) c.loop.counter (is_broken c.loop.self.kept.items) c.in-Some.answer c.loop.invariant.few c.loop.invariant.asked asks)

pub loop-preserved : goal.loop-preserved
loop-preserved g c = record {
  heard = turned_none (heard_of (g.L.Link.given c.args.self.now.link) c.args.self.now.kept.items)
      (heard_of (g.L.Link.given c.loop.self.link) c.loop.self.kept.items)
      (heard_of (g.L.Link.given c.turn.new.self.link) c.turn.new.self.kept.items)
      c.turn.new.into.items c.turn.result c.loop.invariant.heard c.turn.ensures.hears (search rules);
  blank = search rules;
  over = search rules;
  sent = search rules;
  later = search rules;
  more = search rules;
  few = search rules;
  asked = turn_more (g.L.Link.asked c.args.self.now.link) (g.L.Link.asked c.loop.self.link) (g.L.Link.asked c.turn.new.self.link) c.loop.counter (is_broken c.loop.self.kept.items) c.turn.result c.loop.invariant.asked c.turn.ensures.asks;
  same = search rules;
}
