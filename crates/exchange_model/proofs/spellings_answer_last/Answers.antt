use Rattle.exchange_model.proofs.Lasts.{lifted_last}
use Rattle.exchange_model.proofs.spellings_answer_last.Goals as goal

pub returns : goal.returns
returns g c = λ x read write acknowledged spells last. lifted_last x read write spells acknowledged last
