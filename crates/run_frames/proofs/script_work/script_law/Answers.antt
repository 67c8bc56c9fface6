use Rattle.run_frames.proofs.Shared.{script_works}
use Rattle.run_frames.proofs.script_work.script_law.Goals as goal

pub returns : goal.returns
returns c = λ work lens recover retry plan fs missed leads led. script_works work lens recover retry plan fs missed leads led
