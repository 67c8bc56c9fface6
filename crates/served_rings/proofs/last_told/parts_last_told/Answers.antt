use Rattle.run_work.specs.of_slave_parts.Parts.{parts}
use Rattle.served_rings.proofs.Slaves.{slave_tells}
use Rattle.served_rings.proofs.last_told.parts_last_told.Goals as goal

pub returns : goal.returns
returns c = λ p is. slave_tells parts c.parts_are_lawful.ensures p is
