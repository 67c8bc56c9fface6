use Rattle.served_rings.proofs.Singles.{seen_single, all_own}
use Rattle.served_rings.proofs.led_eras.single_law.Goals as goal

pub returns-clause-single : goal.returns-clause-single
returns-clause-single c = λ lens octets station. seen_single lens octets station

pub returns-clause-addressed : goal.returns-clause-addressed
returns-clause-addressed c = λ lens octets. all_own lens octets
