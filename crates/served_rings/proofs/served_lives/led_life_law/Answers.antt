use Rattle.served_rings.proofs.Leds.{life_led}
use Rattle.served_rings.proofs.served_lives.led_life_law.Goals as goal

pub returns : goal.returns
returns c = λ p boot lens spot plan kept counts first l fs n calm i. life_led p boot lens spot plan kept counts first l fs n calm i
