use Rattle.state_model.proofs.FamilyLaw.{family_law, family_is_stated}
use Rattle.state_model.proofs.state_exchange.families_are_stated.Goals as goal

pub returns-clause-lawful : goal.returns-clause-lawful
returns-clause-lawful g c = λ x one law. family_law x one law

pub returns-clause-stated : goal.returns-clause-stated
returns-clause-stated g c = λ x acknowledged one last. family_is_stated x one acknowledged last
