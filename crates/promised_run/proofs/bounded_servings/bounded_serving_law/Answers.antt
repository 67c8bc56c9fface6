use Rattle.promised_run.proofs.Quiet.{all_fair}
use Rattle.promised_run.proofs.bounded_servings.bounded_serving_law.Goals as goal

pub returns-clause-serving : goal.returns-clause-serving
returns-clause-serving c = λ plan fs again missed ws p cs ls ns is known toured asks eager enters round. record {
  again = again;
  toured = toured;
  asks = asks;
  answers = c.served_answers_law.ensures plan fs again missed ws p cs is known toured round asks;
  waits = c.served_waits_law.ensures plan fs again missed ws p cs ls ns is known toured round eager;
  enters = enters;
  round = round;
}

pub returns-clause-fewer : goal.returns-clause-fewer
returns-clause-fewer c = λ plan fs missed lost ws p cs count is known serving quiet few led es rest at host listed begun.
    c.served_bound.ensures.within plan fs missed ws p cs count is known serving (all_fair ws quiet)
    (c.switched_serving_law.ensures plan is known fs lost ws led serving.round quiet es rest at host listed begun) few
