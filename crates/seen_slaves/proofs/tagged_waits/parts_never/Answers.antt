use Rattle.idle_slaves.specs.of_slave_parts.Parts.{parts}
use Rattle.seen_slaves.proofs.Served.{whole_never}
use Rattle.seen_slaves.proofs.tagged_waits.parts_never.Goals as goal

pub returns : goal.returns
returns c = λ p is. whole_never parts c.parts_are_lawful.ensures c.files_are_served.ensures p is
