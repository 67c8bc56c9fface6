-- The lemmas on a ring of links, at the types of the function.
use Rattle.link_model.specs.Agree.{Accords}
use Rattle.link_model.specs.Link.{IsInOrder}
use Rattle.link_model.specs.Numbers.{Numbered}
use Rattle.link_model.specs.Segment.{segment_run}
use Rattle.link_model.proofs.Law.{taken_of_held, accepted_of_offered}
use Rattle.link_model.proofs.Numbers.{numbered}
use Rattle.link_model.proofs.Priors.{happens_accords}
use Rattle.link_model.proofs.Segments.{segment_keeps, segment_run_keeps, run_from_new, run_each, each_gives}
use Rattle.link_model.proofs.laws.segment_law.Goals as goal

pub returns-clause-kept : goal.returns-clause-kept
returns-clause-kept g c = λ v ms e f a. segment_keeps v ms e f a

pub returns-clause-agrees : goal.returns-clause-agrees
returns-clause-agrees g c = λ v ms es f a. segment_run_keeps v ms es f a

pub returns-clause-numbers : goal.returns-clause-numbers
returns-clause-numbers g c = λ v ms es d n f. each_gives Accords Numbered numbered (segment_run v ms es) (run_from_new v ms es d n f)

pub returns-clause-always : goal.returns-clause-always
returns-clause-always g c = λ v ms es d n f.
    each_gives Accords IsInOrder (λ w a. (taken_of_held w a.agrees, accepted_of_offered w a.agrees)) (segment_run v ms es) (run_from_new v ms es d n f)

pub returns-clause-accords : goal.returns-clause-accords
returns-clause-accords g c = λ v ms es d f a. run_each v Accords (happens_accords v) ms es d f a
