use Rattle.plan_ring.proofs.Alike as Same
use Rattle.plan_ring.proofs.named_lives.named_life_law.Goals as goal

pub returns : goal.returns
returns g c = record {
  next = λ is y z same acknowledged more passed frame l stand pick row wish. (Same.next_same is y z same acknowledged more passed frame l stand pick row wish, Same.next_is is y z same acknowledged more passed frame l stand pick row wish);
  back = λ is y z same acknowledged more passed frame spot news back came l stand row. (Same.back_same is y z same acknowledged more passed frame spot news back came l stand row, Same.back_is is y z same acknowledged more passed frame spot news back came l stand row);
  lost = λ is y z same acknowledged more passed spot news sent l stand row. (Same.lost_same is y z same acknowledged more passed spot news sent l stand, Same.lost_is is y z same acknowledged more passed spot news sent l stand row);
}
