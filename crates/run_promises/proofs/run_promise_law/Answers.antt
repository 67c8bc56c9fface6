use Rattle.run_promises.proofs.Served as Served
use Rattle.run_promises.proofs.run_promise_law.Goals as goal

pub returns : goal.returns
returns c = λ plan is known fs missed as' led round. Served.served plan fs as' (c.run_lives_law.ensures plan is known fs missed as' led round) (c.script_run_law.ensures plan fs missed as' led)
