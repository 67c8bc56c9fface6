use Rattle.datagrams.proofs.Changing.{IsPart-inside, IsFrame-set}
use Rattle.datagrams.proofs.writing.set.Goals as goal

pub set_plain-requires : goal.set_plain-requires
set_plain-requires c = IsPart-inside _ _ c.requires

pub returns-clause-reads : goal.returns-clause-reads
returns-clause-reads c = λ front d behind f place head.
    IsFrame-set _ _ c.args.part.now _ _ front d behind c.ranges.adp.fits c.ranges.counter.fits c.set_plain.ensures f place head
