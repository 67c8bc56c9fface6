use Rattle.served_places.proofs.Held.{all_held}
use Rattle.served_places.proofs.kept_rows.held_law.Goals as goal

pub returns : goal.returns
returns c = λ lens recover retry paces first fs missed ws led. all_held lens recover retry paces first fs missed ws led
