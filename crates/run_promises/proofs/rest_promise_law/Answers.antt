use Rattle.run_promises.proofs.Rest.{nothing_left, all_is_done}
use Rattle.run_promises.proofs.rest_promise_law.Goals as goal

pub returns-clause-rests : goal.returns-clause-rests
returns-clause-rests c = λ plan fs as' keeps rests. nothing_left plan fs as' keeps rests

pub returns-clause-done : goal.returns-clause-done
returns-clause-done c = λ plan fs as' keeps rests stayed. all_is_done plan fs as' keeps rests stayed
