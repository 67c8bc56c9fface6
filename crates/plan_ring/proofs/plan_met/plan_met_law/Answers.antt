use Rattle.plan_ring.proofs.PlanOpens.{all_open}
use Rattle.plan_ring.proofs.Meets.{plan_meets}
use Rattle.plan_ring.proofs.plan_met.plan_met_law.Goals as goal

pub returns : goal.returns
returns c = record {
  opens = λ plan fs as' x. all_open plan fs as' x;
  meets = λ plan is known fs as' f us x y w pass. plan_meets plan is known fs as' f us x y w pass;
}
