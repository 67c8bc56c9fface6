use Rattle.run_promises.proofs.Rests as Rests
use Rattle.run_promises.proofs.run_done_law.Goals as goal

pub returns : goal.returns
returns c = λ plan is known fs missed as' led round. Rests.done plan fs as' (c.run_lives_law.ensures plan is known fs missed as' led round) (c.script_run_law.ensures plan fs missed as' led)
