use Rattle.life_counts.proofs.OfPlan.{plan_within, work_split}
use Rattle.life_counts.proofs.plan_counts.plan_counts.Goals as goal

pub returns-clause-within : goal.returns-clause-within
returns-clause-within c = λ room s service q is sound asked. plan_within room s service q is sound asked

pub returns-clause-split : goal.returns-clause-split
returns-clause-split c = λ slaves s service. work_split slaves s service
