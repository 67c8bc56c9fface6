use Rattle.few_replies.proofs.Rows.{new, next, back, lost}
use Rattle.few_replies.proofs.passing_rows.passing_rows.Goals as goal

pub returns : goal.returns
returns g c = record {
  new = λ x more passed state. new x more passed _;
  next = λ x acknowledged more passed frame l pick k. next x more passed acknowledged frame l l.stand pick k;
  back = λ x acknowledged more passed frame spot news ds came l k e. back x more passed acknowledged frame spot news ds came l l.stand k e;
  lost = λ x acknowledged more passed spot news sent l k e. lost x more passed acknowledged spot news sent l l.stand k e;
  given_up = λ x more passed recover frame spot l k. k;
}
