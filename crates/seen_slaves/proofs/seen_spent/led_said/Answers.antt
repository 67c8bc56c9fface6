use Rattle.seen_slaves.proofs.Led.{led_says}
use Rattle.seen_slaves.proofs.seen_spent.led_said.Goals as goal

pub returns : goal.returns
returns g c = λ x acknowledged processor more passed spot opened v r silent fs counts e n led. led_says x acknowledged processor more passed spot opened v r silent fs counts e n led
