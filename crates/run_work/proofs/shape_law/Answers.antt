use Rattle.run_work.proofs.Shaped.{keeps_shape}
use Rattle.run_work.proofs.shape_law.Goals as goal

pub returns : goal.returns
returns c = λ p is boot lens. keeps_shape c.parts_are_lawful.ensures p is (c.shape_counts.ensures p is) boot lens
