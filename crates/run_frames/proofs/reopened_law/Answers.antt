use Rattle.run_frames.proofs.Stating.{few_reopened}
use Rattle.run_frames.proofs.reopened_law.Goals as goal

pub returns : goal.returns
returns g c = λ x acknowledged more passed recover slowest first cs p r. few_reopened x acknowledged more passed recover slowest first p cs r
