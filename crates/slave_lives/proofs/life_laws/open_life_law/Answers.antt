use Rattle.slave_lives.proofs.RingLives
use Rattle.slave_lives.proofs.life_laws.open_life_law.Goals as goal

pub returns : goal.returns
returns g c = record {
  stands = λ u t. RingLives.stands_behind u t;
  lives = λ w is more passed spot from e fs t pick news o. RingLives.lived_on w is more passed spot from e fs t pick news o;
}
