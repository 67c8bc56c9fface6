use Rattle.slave_lives.proofs.EraEnds
use Rattle.slave_lives.proofs.life_laws.end_law.Goals as goal

pub returns : goal.returns
returns g c = record {
  ends = λ w spot from e fs n l. EraEnds.ends w spot from e fs n l;
  stays = λ w spot from e fs gs s l. EraEnds.stays w spot from e fs gs s l;
  all_stay = λ w cleared spot fs gs a es b l. EraEnds.all_stay w cleared spot fs gs l;
  chain = λ w cleared spot fs a es b l. EraEnds.eras w cleared spot fs l;
  clears = λ w clearing is al s. EraEnds.clears_to w clearing is al s;
}
