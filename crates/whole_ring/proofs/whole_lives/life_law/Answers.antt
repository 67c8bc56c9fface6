use Rattle.whole_ring.proofs.WholeTurning as Turning
use Rattle.whole_ring.proofs.whole_lives.life_law.Goals as goal

pub returns : goal.returns
returns g k = record {
  begins = λ w c p spot al s whole clear none. Turning.begins w c p spot whole al s clear none;
  turns = λ w c p spot first l fs t more passed pick news came whole i f a. Turning.turns w c p spot whole first l fs t more passed pick news came i f a;
  gives = λ w c p spot first l fs n recover frame whole i. Turning.given_up w c p spot whole first l fs n recover frame i;
}
