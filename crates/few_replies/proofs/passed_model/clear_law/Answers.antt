-- The lemmas on cleared servers, at the types of the function.
use Rattle.few_replies.proofs.Clears
use Rattle.few_replies.proofs.passed_model.clear_law.Goals as goal

pub returns-clause-clears : goal.returns-clause-clears
returns-clause-clears g c = λ x core law clear forgets w i. Clears.clears x core law clear forgets w i

pub returns-clause-counts : goal.returns-clause-counts
returns-clause-counts g c = λ x clear w. Clears.counts x clear w

pub returns-clause-first : goal.returns-clause-first
returns-clause-first g c = λ x w q m rest ready valid full. record { ready = ready; valid = valid; rest = rest; full = full }

pub returns-clause-one_more : goal.returns-clause-one_more
returns-clause-one_more g c = λ x w q m rest is ready valid full. Clears.one_more x w q m rest is ready valid full
