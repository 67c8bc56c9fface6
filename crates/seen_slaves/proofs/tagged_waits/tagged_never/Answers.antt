use Rattle.seen_slaves.proofs.Never.{never_calm, never_tagged}
use Rattle.seen_slaves.proofs.tagged_waits.tagged_never.Goals as goal

pub returns : goal.returns
returns g c = record {
  tagged = λ x core law never. never_tagged x core law never;
  calm = λ x core law never calm fair. never_calm x core law never calm fair;
}
