use Rattle.served_rings.proofs.Speakers.{stated}
use Rattle.served_rings.proofs.plan_speakers.state_law.Goals as goal

pub returns : goal.returns
returns c = λ p is. stated p (c.parts_are_served.ensures.stated p is)
