use Rattle.std.proofs.Common.{ℕ, arith, length-drop}
use Rattle.datagrams.proofs.Walking.{first_found, first_part}
use Rattle.datagrams.proofs.reading.first.Goals as goal

pub head_in-requires-clause-inside : goal.head_in-requires-clause-inside
head_in-requires-clause-inside c = let fits = (first_found c.args.bytes.now c.requires.0 c.requires.1).0 in omega (arith, length-drop {A = ℕ})

pub head_in-requires-clause-whole : goal.head_in-requires-clause-whole
head_in-requires-clause-whole c = (first_found c.args.bytes.now c.requires.0 c.requires.1).0

pub returns-clause-first : goal.returns-clause-first
returns-clause-first c = λ ds f. (first_found c.args.bytes.now ds f).1 c.head_in.result c.head_in.ensures

pub returns-clause-part : goal.returns-clause-part
returns-clause-part c = first_part c.args.bytes.now c.requires.0 c.requires.1 c.head_in.result c.head_in.ensures
