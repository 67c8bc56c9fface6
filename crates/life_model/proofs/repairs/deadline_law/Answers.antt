use Rattle.life_model.proofs.Mending.{nearer_end, most, lasts, is_patient, ring_ends}
use Rattle.life_model.proofs.repairs.deadline_law.Goals as goal

pub returns : goal.returns
returns c = record {
  nearer = λ slaves pace a b w s t e m. nearer_end slaves pace a b w s t e m;
  most = λ slaves pace s t. most slaves pace s t;
  lasts = λ slaves pace k a b t l. lasts slaves pace k a b t l;
  patience = λ slaves pace. is_patient slaves pace;
  ring = λ slaves pace before behind m. ring_ends slaves pace before behind m;
}
