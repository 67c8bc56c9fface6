use Rattle.life_counts.proofs.Worked.{worked_gains}
use Rattle.life_counts.proofs.tagged_lives.worked_counts.Goals as goal

pub returns : goal.returns
returns g c = λ x s processor table spot cl shape count first l lawful stated keeps worked unopened. worked_gains x lawful s stated processor table spot cl shape count keeps first l worked unopened
