use Rattle.std.proofs.Common.{refl}
use Rattle.life_counts.proofs.Unopened.{new_unopened, next_unopened, back_unopened, lost_unopened, gives_unopened}
use Rattle.life_counts.proofs.unopened_law.Goals as goal

pub returns : goal.returns
returns g c = record {
  new = λ state. new_unopened state;
  next = λ x acknowledged more passed frame l pick u. next_unopened x acknowledged more passed frame l l.stand pick refl u;
  back = λ x acknowledged more passed frame spot news back came l u. back_unopened x acknowledged more passed frame spot news back came l l.stand refl u;
  lost = λ x acknowledged more passed spot news sent l u. lost_unopened x acknowledged more passed spot news sent l l.stand refl u;
  given_up = λ recover frame spot l u. gives_unopened recover frame spot l u;
}
