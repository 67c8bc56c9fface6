use Rattle.served_rings.proofs.Fair.{life_fair}
use Rattle.served_rings.proofs.plan_speakers.fair_law.Goals as goal

pub returns : goal.returns
returns c = λ p lens w has fair. life_fair p lens w has fair
