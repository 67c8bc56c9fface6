use Rattle.whole_ring.proofs.Seated
use Rattle.whole_ring.proofs.whole_lives.seated_law.Goals as goal

pub returns : goal.returns
returns g k = record {
  known = λ w c p spot first l fs n whole i. Seated.known w c p spot whole i.from l.era fs l.stand n i.now;
  comes = λ w p spot stand t before behind first last at named distinct meet sent roomy. Seated.comes w p spot stand t before behind first last at named distinct meet sent roomy;
}
