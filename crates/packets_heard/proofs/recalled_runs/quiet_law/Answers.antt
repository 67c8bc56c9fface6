use Rattle.packets_heard.proofs.RecalledQuiet.{quiet_led}
use Rattle.packets_heard.proofs.recalled_runs.quiet_law.Goals as goal

pub returns : goal.returns
returns c = λ plan fs missed leads led es l ms listed is rests. quiet_led plan fs missed leads led es l ms listed is rests
