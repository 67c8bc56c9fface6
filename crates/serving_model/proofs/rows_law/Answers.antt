use Rattle.serving_model.proofs.Erased.{rows_is}
use Rattle.serving_model.proofs.rows_law.Goals as goal

pub returns : goal.returns
returns g c = λ x core law w past now taken rest same ready right settled mine e. rows_is x core law w past now taken rest same ready right settled mine e
