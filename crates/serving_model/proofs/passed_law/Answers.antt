use Rattle.serving_model.proofs.Passings.{passed_whole, by_contents}
use Rattle.serving_model.proofs.passed_law.Goals as goal

pub returns-clause-whole : goal.returns-clause-whole
returns-clause-whole g c = λ x more tells w r m ready is loud whole. passed_whole x more tells w r m ready is loud whole

pub returns-clause-by_contents : goal.returns-clause-by_contents
returns-clause-by_contents g c = λ x more tells v m ready loud hs rest e. by_contents x more tells v m ready loud hs rest e
