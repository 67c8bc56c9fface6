use Rattle.idle_slaves.proofs.Comes.{era_comes}
use Rattle.idle_slaves.proofs.StatesSteps.{era_alone}
use Rattle.idle_slaves.proofs.states_come.states_come_law.Goals as goal

pub returns : goal.returns
returns g c = record {
  comes = λ x s processor table spot e opened last fs v r slave duty phase is hand stage. era_comes x s processor table spot e opened last fs v r slave is duty phase hand stage;
  steps = λ x s processor table spot e opened last fs v r slave law stated is. era_alone x law s stated processor table spot e opened last fs v r slave is;
}
