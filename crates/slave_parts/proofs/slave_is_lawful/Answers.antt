use Rattle.slave_model.proofs.ProductLaw.{product_law}
use Rattle.slave_model.proofs.StatedLaw.{product_stated}
use Rattle.slave_parts.specs.Parts.{parts}
use Rattle.slave_parts.proofs.slave_is_lawful.Goals as goal

pub returns-clause-lawful : goal.returns-clause-lawful
returns-clause-lawful c = λ p is. product_law parts c.parts_are_lawful.ensures p is

pub returns-clause-stated : goal.returns-clause-stated
returns-clause-stated c = λ p is. product_stated parts c.parts_are_lawful.ensures p is
