use Rattle.std.proofs.Common.{refl}
use Rattle.served_rings.proofs.Led.{was_led}
use Rattle.served_rings.proofs.served_eras.led_law.Goals as goal

pub returns : goal.returns
returns c = λ p boot lens spot from counts e fs n l calm. was_led p boot lens spot from from (λ state. refl) counts e fs n l calm
