-- The lemmas on one link, at the types of the function.
use Rattle.link_model.specs.Link.{run, new_link}
use Rattle.link_model.proofs.Law.{happens_keeps, run_keeps, new_agrees, taken_of_held, accepted_of_offered}
use Rattle.link_model.proofs.Priors.{happens_accords, run_accords, new_accords}
use Rattle.link_model.proofs.Numbers.{numbered}
use Rattle.link_model.proofs.laws.link_law.Goals as goal

pub returns-clause-kept : goal.returns-clause-kept
returns-clause-kept g c = λ v w e a. happens_keeps v w e a

pub returns-clause-accords : goal.returns-clause-accords
returns-clause-accords g c = λ v w e a. happens_accords v w e a

pub returns-clause-numbers : goal.returns-clause-numbers
returns-clause-numbers g c = λ w a. numbered w a

pub returns-clause-in_order : goal.returns-clause-in_order
returns-clause-in_order g c = λ w a. (taken_of_held w a, accepted_of_offered w a)

pub returns-clause-always : goal.returns-clause-always
returns-clause-always g c = λ v s es.
    let w = run v (new_link s) es in
    let a = run_keeps v (new_link s) es (new_agrees s) in
    (taken_of_held w a, accepted_of_offered w a)

pub returns-clause-agrees : goal.returns-clause-agrees
returns-clause-agrees g c = λ v s es. run_accords v (new_link s) es (new_accords s)
