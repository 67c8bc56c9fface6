use Rattle.soe_codec.proofs.Spelled.{found_in, spellable_from}
use Rattle.soe_codec.proofs.viewing.view.Goals as goal

pub returns-clause-found : goal.returns-clause-found
returns-clause-found c = found_in _ _ (λ i. (c.type_inv.body i).fits) c.view_plain.ensures.value

pub returns-clause-sound : goal.returns-clause-sound
returns-clause-sound c = spellable_from _ _ (found_in _ _ (λ i. (c.type_inv.body i).fits) c.view_plain.ensures.value)
