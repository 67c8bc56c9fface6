use Rattle.plan_ring.proofs.SlaveTurns.{turns, given}
use Rattle.plan_ring.proofs.slave_clocks.clock_law.Goals as goal

pub returns : goal.returns
returns g c = record {
  turns = λ w c p spot first l fs t more passed pick news came stepped whole i f a prior. turns w c p spot whole first l fs t more passed pick news came i stepped f a prior;
  gives = λ recover frame spot l stepped r. given recover frame spot l stepped r;
}
