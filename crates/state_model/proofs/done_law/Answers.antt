-- The lemmas on what is done, at the types of the function.
use Rattle.state_model.proofs.Orders.{done_prefix, done_count, done_longest, done_front, services_done}
use Rattle.state_model.proofs.done_law.Goals as goal

pub returns-clause-first : goal.returns-clause-first
returns-clause-first g c = λ k bs. done_prefix k bs

pub returns-clause-counts : goal.returns-clause-counts
returns-clause-counts g c = λ k bs le. done_count k bs le

pub returns-clause-longest : goal.returns-clause-longest
returns-clause-longest g c = λ k bs p is e. done_longest k bs p is e

pub returns-clause-places : goal.returns-clause-places
returns-clause-places g c = λ k front back le. done_front k front back le

pub returns-clause-services : goal.returns-clause-services
returns-clause-services g c = λ k bs s. services_done k bs s
