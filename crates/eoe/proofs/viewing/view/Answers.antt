use Rattle.eoe.proofs.Spelled.{found_in}
use Rattle.eoe.proofs.viewing.view.Goals as goal

pub returns-clause-found : goal.returns-clause-found
returns-clause-found c = found_in _ _ (λ i. (c.type_inv.body i).fits) c.view_plain.ensures.value
