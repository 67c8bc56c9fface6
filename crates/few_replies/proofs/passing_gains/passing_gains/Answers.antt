use Rattle.std.proofs.Common.{refl, arith}
use Rattle.few_replies.proofs.PassingSteps.{before, grows, lost, most, goes_on, next_under, back_under, lost_under}
use Rattle.few_replies.proofs.passing_gains.passing_gains.Goals as goal

pub returns : goal.returns
returns g c = record {
  before = λ x acknowledged more passed frame l pick. before x acknowledged more passed frame l l.stand pick;
  grows = λ x acknowledged more passed frame spot news back came l. grows x acknowledged more passed frame spot news back came l l.stand;
  lost = λ x acknowledged more passed spot news sent l. lost x acknowledged more passed spot news sent l l.stand;
  given_up = λ passed recover frame spot l. refl;
  most = λ passed l. most passed l;
  goes_on = λ x acknowledged more passed frame spot news back came l under less. goes_on x acknowledged more passed frame spot news back came l under less;
  new = λ passed state. omega arith;
  next_under = λ x acknowledged more passed frame l pick under. next_under x acknowledged more passed frame l l.stand pick under;
  back_under = λ x acknowledged more passed frame spot news back came l under. back_under x acknowledged more passed frame spot news back came l l.stand under;
  lost_under = λ x acknowledged more passed spot news sent l under. lost_under x acknowledged more passed spot news sent l l.stand under;
}
