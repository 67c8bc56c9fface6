use Rattle.served_rings.proofs.Sessions.{led_session}
use Rattle.served_rings.proofs.led_eras.session_law.Goals as goal

pub returns : goal.returns
returns g c = λ x s processor table more passed spot opened v r plan answers fs counts e n l. led_session x s processor table more passed spot opened v r plan answers fs counts e n l
