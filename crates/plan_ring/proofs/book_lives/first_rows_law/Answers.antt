use Rattle.std.proofs.Common.{refl}
use Rattle.plan_ring.proofs.Rows
use Rattle.plan_ring.proofs.book_lives.first_rows_law.Goals as goal

pub returns : goal.returns
returns g k = record {
  begins = λ state. Rows.new_first state;
  back = λ x acknowledged more passed made spot news pick l back came wish is. Rows.back_first x acknowledged more passed made spot news pick wish l is back came l.stand refl;
  lost = λ x acknowledged more passed made spot news pick l sent wish is. Rows.lost_first x acknowledged more passed made spot news pick wish l is sent l.stand refl;
}
