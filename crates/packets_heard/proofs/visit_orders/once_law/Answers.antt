use Rattle.packets_heard.proofs.Onces.{carried_once}
use Rattle.packets_heard.proofs.visit_orders.once_law.Goals as goal

pub returns : goal.returns
returns c = λ again under place left next old new h n e. carried_once again under place left next old new h n e
