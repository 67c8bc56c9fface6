use Rattle.std.proofs.Common.{ap, refl, Some, arith}
use Rattle.ec_links.proofs.Given.{gives_pause, gives_some, gives_rest, some_left}
use Rattle.ec_links.proofs.mem_link.MemLink.give.Goals as goal

pub returns-in-Pause-clause-left : goal.returns-in-Pause-clause-left
returns-in-Pause-clause-left c =
    (gives_pause c.args.self.now.items c.args.self.now.at c.args.self.now.from c.args.most c.index-as_slice-self.result (grind arith) (grind arith)
    c.in-Pause.is c.args.self.now.inside).left

pub returns-in-Pause-clause-gives : goal.returns-in-Pause-clause-gives
returns-in-Pause-clause-gives c = (
  refl,
  ap (λ octets. Some octets)
      (gives_pause c.args.self.now.items c.args.self.now.at c.args.self.now.from c.args.most c.index-as_slice-self.result (grind arith) (grind arith)
      c.in-Pause.is c.args.self.now.inside).given,
)

pub returns-then-most-left-clause-gives : goal.returns-then-most-left-clause-gives
returns-then-most-left-clause-gives c =
    gives_some c.args.self.now.items c.args.self.now.at c.args.self.now.from c.args.most c.index-as_slice-self.result c.bytes.result.now
    c.args.into.now.items c.append.new.buffer.items (grind arith) (grind arith) (grind arith) c.requires.some c.if-most-left.true c.append.ensures

pub returns-else-most-left-clause-gives : goal.returns-else-most-left-clause-gives
returns-else-most-left-clause-gives c =
    gives_rest c.args.self.now.items c.args.self.now.at c.args.self.now.from c.args.most c.index-as_slice-self.result c.bytes.result.now
    c.args.into.now.items c.append-else-most-left.new.buffer.items (grind arith) (grind arith) (grind arith)
    (some_left c.args.self.now.items c.args.self.now.at c.args.self.now.from c.index-as_slice-self.result c.bytes.result.now (grind arith)
    (grind arith) (grind arith) c.requires.ready)
    (grind arith) c.append-else-most-left.ensures
