use Rattle.slave_parts.specs.Parts.{parts}
use Rattle.slave_parts.proofs.SlaveLaw.{product_served}
use Rattle.slave_parts.proofs.StatesLaw.{product_stated}
use Rattle.slave_parts.proofs.parts_served.parts_are_served.Goals as goal

pub returns-clause-served : goal.returns-clause-served
returns-clause-served c = λ p is. product_served parts c.parts_are_lawful.ensures c.files_are_served.ensures p is

pub returns-clause-stated : goal.returns-clause-stated
returns-clause-stated c = λ p is. product_stated parts c.parts_are_lawful.ensures c.files_are_served.ensures p is
