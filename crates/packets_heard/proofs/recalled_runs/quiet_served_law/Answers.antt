use Rattle.packets_heard.proofs.RecalledQuiet.{quiet_served}
use Rattle.packets_heard.proofs.recalled_runs.quiet_served_law.Goals as goal

pub returns : goal.returns
returns c = λ plan fs missed ws led es l ms listed is rests. quiet_served plan fs missed ws led es l ms listed is rests
