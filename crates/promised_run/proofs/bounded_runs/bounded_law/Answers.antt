use Rattle.promised_run.proofs.Fewer.{fewer}
use Rattle.promised_run.proofs.bounded_runs.bounded_law.Goals as goal

pub returns : goal.returns
returns c = λ plan book ending is known sent led p cs run memory.
    fewer plan book ending
    (record {
      fewer = λ fs missed leads q ds r switched. c.run_bound.ensures.switched plan fs missed leads q ds is known r switched;
      switched = λ fs missed leads lives round es rest at host listed begun. c.switched_run_law.ensures plan is known fs missed leads lives round es rest at host listed begun;
    })
    sent led p cs run memory
