use Rattle.seen_slaves.proofs.Said.{back, lost, next, none_says}
use Rattle.seen_slaves.proofs.spent_rows.said_rows.Goals as goal

pub returns : goal.returns
returns g c = record {
  new = λ x state. none_says x;
  next = λ x acknowledged more passed silent frame l pick k. next x acknowledged more passed silent frame l l.stand pick k;
  back = λ x acknowledged more passed frame spot news ds came l k. back x acknowledged more passed frame spot news ds came l l.stand k;
  lost = λ x acknowledged more passed spot news ds l k. lost x acknowledged more passed spot news ds l l.stand k;
  given_up = λ x recover frame spot l k. k;
}
