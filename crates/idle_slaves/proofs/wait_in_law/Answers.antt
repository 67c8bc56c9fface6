use Rattle.idle_slaves.proofs.Runs.{wait_in}
use Rattle.idle_slaves.proofs.wait_in_law.Goals as goal

pub returns : goal.returns
returns g c = λ lens recover retry slowest first paces fs again missed leads p cs run v. wait_in _ run v
