use Rattle.promised_run.proofs.Recalled.{all_fewer}
use Rattle.promised_run.proofs.bounded_runs.fewer_law.Goals as goal

pub returns : goal.returns
returns c = λ plan book ending is known room sent led memory.
    all_fewer plan book ending sent led
    (record {
      bounded = λ p cs run. c.bounded_law.ensures plan book ending is known sent led p cs run memory;
      eager = λ fs t s toured steps round rest host. c.eager_run_law.ensures plan fs t led.leads s is known room toured steps round rest host;
    })
    memory
