use Rattle.std.proofs.Common.{refl}
use Rattle.run_work.specs.of_slave_server.Serving.{fresh}
use Rattle.served_rings.proofs.plan_speakers.run_law.Goals as goal

pub returns-clause-runs : goal.returns-clause-runs
returns-clause-runs c = λ p boot station. record { serve = refl; speech = refl; tells = λ state v. refl; tells_seen = λ state v. refl; carries = λ r. refl; worded = λ r. refl }

pub returns-clause-forgets : goal.returns-clause-forgets
returns-clause-forgets c = λ p v w core handled. (λ i. record { inner = record (fresh (core i).app) { handled = handled i }; state = 1 })
