use Rattle.life_model.proofs.Paying.{paid, within}
use Rattle.life_model.proofs.sums.sum_law.Goals as goal

pub returns : goal.returns
returns c = record {
  paid = λ slaves pace first t c. paid slaves pace first t c;
  within = λ slaves pace first work lost t n p f c g l. within slaves pace first work lost t n p f c g l;
}
