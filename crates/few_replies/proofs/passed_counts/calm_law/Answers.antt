use Rattle.few_replies.proofs.Calms.{calm_lawful, calm_counted, calm_foreseen}
use Rattle.few_replies.proofs.passed_counts.calm_law.Goals as goal

pub returns : goal.returns
returns g c = record {
  lawful = λ x core calm fair most law is. calm_lawful x core law calm fair most is;
  counted = λ x core calm fair most shape count law is keeps counts. calm_counted x core law calm fair most is shape count keeps counts;
  foreseen = λ x calm fair most is w m answers ready fits seen. calm_foreseen x calm fair most is w m answers ready fits seen;
}
