-- The lemmas on a frame over a ring, at the types of the function.
use Rattle.link_model.proofs.Segments.{frame_is, ring_of-members_after}
use Rattle.link_model.proofs.laws.frame_law.Goals as goal

pub returns-clause-alone : goal.returns-clause-alone
returns-clause-alone g c = λ v ms gs fate d f. frame_is v ms gs fate d f

pub returns-clause-ring : goal.returns-clause-ring
returns-clause-ring g c = λ ms gs fate. ring_of-members_after ms gs fate
