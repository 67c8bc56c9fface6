use Rattle.std.proofs.Common.{ap, arith, Some}
use Rattle.ec_outside.proofs.HeardItems.{heard_pause, heard_gram}
use Rattle.ec_outside.proofs.mem_port.MemPort.give.Goals as goal

pub returns-in-Pause-clause-hears : goal.returns-in-Pause-clause-hears
returns-in-Pause-clause-hears c =
    ap (λ grams. Some grams)
    (heard_pause c.args.self.now.items c.args.self.now.given c.index-as_slice-at.result (grind arith) (grind arith) (grind arith))

pub returns-in-Gram-clause-hears : goal.returns-in-Gram-clause-hears
returns-in-Gram-clause-hears c =
    ap (λ grams. Some grams)
    (heard_gram c.args.self.now.items c.args.self.now.given c.index-as_slice-at.result c.in-Gram.from c.in-Gram.bytes c.fill.new.into.items
    (grind arith) (grind arith) (grind arith) (grind arith))
