use Rattle.seen_slaves.proofs.Hears.{hears_calm}
use Rattle.seen_slaves.proofs.tagged_waits.tagged_hears.Goals as goal

pub returns : goal.returns
returns g c = λ x core law hears calm fair. hears_calm x core law hears calm fair
