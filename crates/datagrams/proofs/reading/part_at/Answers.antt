use Rattle.std.proofs.Common.{ℕ, drop, arith, length-drop}
use Rattle.datagrams.specs.Frame.{part_at}
use Rattle.datagrams.proofs.Changing.{IsPart-inside}
use Rattle.datagrams.proofs.reading.part_at.Goals as goal

pub head_in-requires-clause-inside : goal.head_in-requires-clause-inside
head_in-requires-clause-inside c = let fits = IsPart-inside c.args.bytes.now (part_at c.args.at (drop c.args.at c.args.bytes.now)) c.requires in omega arith

pub head_in-requires-clause-whole : goal.head_in-requires-clause-whole
head_in-requires-clause-whole c =
    let fits = IsPart-inside c.args.bytes.now (part_at c.args.at (drop c.args.at c.args.bytes.now)) c.requires in omega (arith, length-drop {A = ℕ})
