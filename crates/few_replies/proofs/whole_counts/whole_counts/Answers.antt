use Rattle.few_replies.proofs.Whole.{whole_counted, whole_kept}
use Rattle.few_replies.proofs.whole_counts.whole_counts.Goals as goal

pub returns : goal.returns
returns c = record {
  counted = λ p is. whole_counted c.parts_are_lawful.ensures c.files_are_served.ensures p is;
  kept = λ p. whole_kept p;
}
