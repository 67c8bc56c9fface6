use Rattle.few_replies.proofs.Sums.{quiet_few, enough}
use Rattle.few_replies.proofs.passed_counts.gram_law.Goals as goal

pub returns : goal.returns
returns s = record {
  quiet = λ slaves pace some. quiet_few slaves pace some;
  enough = λ slaves pace still few. enough slaves pace still few;
}
