-- The lemmas on registers, at the types of the function.
use Rattle.state_model.proofs.Mets.{written, status_found, found_kept}
use Rattle.state_model.proofs.register_law.Goals as goal

pub returns-clause-written : goal.returns-clause-written
returns-clause-written g c = λ station s word ds w. written station s word ds w

pub returns-clause-status : goal.returns-clause-status
returns-clause-status g c = λ station s d access meant. status_found station s d access meant

pub returns-clause-kept : goal.returns-clause-kept
returns-clause-kept g c = λ station s d no_one. found_kept station s d no_one

pub returns-clause-steps : goal.returns-clause-steps
returns-clause-steps g c = λ x processor table s carries. carries
