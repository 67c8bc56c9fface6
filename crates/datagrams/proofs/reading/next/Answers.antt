use Rattle.std.proofs.Common.{rules}
use Rattle.datagrams.proofs.Changing.{IsPart-inside}
use Rattle.datagrams.proofs.Walking.{next_found, none_found, part_low, next_part}
use Rattle.datagrams.proofs.reading.next.Goals as goal

pub returns-then-not-part-clause-next : goal.returns-then-not-part-clause-next
returns-then-not-part-clause-next c = λ front d behind f place head. none_found c.args.bytes.now c.args.part.now front behind d f head c.if-not-part.true

pub overflow_add-at-2 : goal.overflow_add-at-2
overflow_add-at-2 c = let low = part_low c.args.bytes.now c.args.part.now c.requires in search rules

pub head_in-requires-clause-inside : goal.head_in-requires-clause-inside
head_in-requires-clause-inside c = IsPart-inside c.args.bytes.now c.args.part.now c.requires

pub head_in-requires-clause-whole : goal.head_in-requires-clause-whole
head_in-requires-clause-whole c =
    (next_found c.args.bytes.now c.args.part.now c.requires.front c.requires.behind c.requires.datagram c.requires.frame c.requires.place c.requires.head c.if-not-part.false).0

pub returns-clause-next : goal.returns-clause-next
returns-clause-next c = λ front d behind f place head.
    (next_found c.args.bytes.now c.args.part.now front behind d f place head c.if-not-part.false).1 c.head_in.result c.head_in.ensures

pub returns-clause-part : goal.returns-clause-part
returns-clause-part c = next_part c.args.bytes.now c.args.part.now c.requires c.if-not-part.false c.head_in.result c.head_in.ensures
