use Rattle.idle_slaves.specs.of_slave_parts.Parts.{parts}
use Rattle.seen_slaves.proofs.WholeHears.{whole_hears}
use Rattle.seen_slaves.proofs.tagged_waits.parts_hear.Goals as goal

pub returns : goal.returns
returns c = λ p is. whole_hears parts c.parts_are_lawful.ensures c.files_are_served.ensures p is
