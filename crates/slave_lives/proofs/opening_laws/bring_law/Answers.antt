use Rattle.slave_lives.proofs.Openings
use Rattle.slave_lives.proofs.Brought
use Rattle.slave_lives.proofs.opening_laws.bring_law.Goals as goal

pub returns : goal.returns
returns g c = record {
  begins = λ p s. Openings.first_brings p s;
  stays = λ boot lens p plan n r k s ds at b one. Openings.frame_brings boot lens p plan n r k s ds at b one;
  goes = λ boot lens p plan n r k s ds at b one. Openings.frame_goes boot lens p plan n r k s ds at b one;
  steps = λ u boot lens p plan n r q k j s t b none clear keeps steps status code. Brought.step_brings u boot lens p plan n r q k j s t b none clear keeps steps status code;
  returned = λ u boot lens p plan n r k s b cleared waits. Brought.returned u boot lens p plan n r k s b cleared waits;
}
