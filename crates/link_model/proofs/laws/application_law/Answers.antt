-- The lemma on the application, at the types of the function.
use Rattle.std.proofs.Common.{refl}
use Rattle.link_model.specs.Link.{new_link}
use Rattle.link_model.proofs.Application.{run_carried}
use Rattle.link_model.proofs.laws.application_law.Goals as goal

pub returns : goal.returns
returns g c = λ v app carry s es carries leaves. run_carried v app carry (app s) carries (new_link s) es leaves refl
