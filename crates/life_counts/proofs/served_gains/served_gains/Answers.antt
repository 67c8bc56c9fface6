use Rattle.std.proofs.Common.{refl}
use Rattle.life_counts.proofs.Sums.{before, grows, lost, most, by_mails, by_news}
use Rattle.life_counts.proofs.served_gains.served_gains.Goals as goal

pub returns : goal.returns
returns g c = record {
  before = λ x acknowledged more passed frame l pick. before x acknowledged more passed frame l pick;
  grows = λ x acknowledged more passed frame spot news back came l. grows x acknowledged more passed frame spot news back came l;
  lost = λ x acknowledged more passed spot news sent l. lost x acknowledged more passed spot news sent l;
  given_up = λ passed recover frame spot l. refl;
  most = λ passed count l few. most passed count l few;
  by_mails = λ x acknowledged more passed frame spot news back came l few. by_mails x acknowledged more passed frame spot news back came l few;
  by_news = λ x acknowledged more passed frame spot news back came l stands under less. by_news x acknowledged more passed frame spot news back came l stands under less;
}
