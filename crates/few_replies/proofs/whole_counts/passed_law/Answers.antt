use Rattle.few_replies.proofs.Whole.{passed_lawful, passed_counted}
use Rattle.few_replies.proofs.whole_counts.passed_law.Goals as goal

pub returns : goal.returns
returns c = record {
  lawful = λ p is. passed_lawful c.parts_are_lawful.ensures c.files_are_served.ensures p is;
  counted = λ p is. passed_counted c.parts_are_lawful.ensures c.files_are_served.ensures p is;
}
