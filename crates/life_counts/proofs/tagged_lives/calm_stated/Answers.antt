use Rattle.life_counts.proofs.Stated.{calm_stated}
use Rattle.life_counts.proofs.tagged_lives.calm_stated.Goals as goal

pub returns : goal.returns
returns g c = λ x s calm fair keeps stated. calm_stated x s calm fair keeps stated
