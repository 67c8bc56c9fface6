use Rattle.idle_slaves.proofs.Entering.{entered}
use Rattle.idle_slaves.proofs.entered_runs.entered_law.Goals as goal

pub returns : goal.returns
returns c = λ plan slowest paces fs again missed leads p cs ns run e. entered plan slowest paces fs again missed leads p cs ns run e
