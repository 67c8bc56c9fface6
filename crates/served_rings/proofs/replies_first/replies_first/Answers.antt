-- The lemmas on what a slave gives, at the types of the function.
use Rattle.served_rings.proofs.Gifts
use Rattle.served_rings.proofs.replies_first.replies_first.Goals as goal

pub returns : goal.returns
returns g c = λ o p al j b. Gifts.replies o p al j b
