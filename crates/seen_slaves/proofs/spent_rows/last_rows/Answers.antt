use Rattle.std.proofs.Common.{[]}
use Rattle.seen_slaves.proofs.Last.{back, lost, next, none_lasts}
use Rattle.seen_slaves.proofs.spent_rows.last_rows.Goals as goal

pub returns : goal.returns
returns g c = record {
  new = λ state. none_lasts [];
  next = λ x acknowledged more passed frame l pick k. next x acknowledged more passed frame l l.stand pick k;
  back = λ x acknowledged more passed frame spot news ds came l k. back x acknowledged more passed frame spot news ds came l l.stand k;
  lost = λ x acknowledged more passed spot news ds l k. lost x acknowledged more passed spot news ds l l.stand k;
  given_up = λ recover frame spot l k. k;
}
