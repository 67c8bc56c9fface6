use Rattle.std.proofs.Common.{refl}
use Rattle.run_work.specs.of_slave_lives.Ends.{no_pick}
use Rattle.served_rings.proofs.LedLives as Lives
use Rattle.served_rings.proofs.led_eras.led_law.Goals as goal

pub returns-clause-begins : goal.returns-clause-begins
returns-clause-begins g c = λ w is stated tells more passed p spot al cleared opened fs n frames start o. Lives.begins w is more passed spot stated tells p al cleared opened fs n frames start o

pub returns-clause-on : goal.returns-clause-on
returns-clause-on g c = λ w is more passed spot from counts e fs t l pick o. Lives.on w is more passed spot from counts e fs t l pick o

pub returns-clause-stays : goal.returns-clause-stays
returns-clause-stays g c = λ w is more passed spot from counts e fs t l o sent back answered. Lives.stays w is more passed spot from counts e fs t l no_pick o refl sent back answered

pub returns-clause-steady : goal.returns-clause-steady
returns-clause-steady g c = λ w is more passed spot from counts e fs n l over hand. Lives.steady w is more passed spot from counts e fs n l over hand
