use Rattle.run_frames.proofs.Came as Came
use Rattle.run_frames.proofs.script_runs.script_run_law.Goals as goal

pub returns : goal.returns
returns c = λ plan fs missed as' led. Came.come plan fs missed as' led
