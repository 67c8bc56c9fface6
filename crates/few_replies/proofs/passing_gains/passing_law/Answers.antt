use Rattle.std.proofs.Common.{refl}
use Rattle.few_replies.proofs.PassingSteps.{no_further}
use Rattle.few_replies.proofs.passing_gains.passing_law.Goals as goal

pub returns : goal.returns
returns g c = record {
  back = λ emission more p n. no_further emission more p n;
  told = λ emission more m. refl;
  written = λ emission more. refl;
  taken = λ emission more. refl;
  empty = λ emission more. refl;
}
