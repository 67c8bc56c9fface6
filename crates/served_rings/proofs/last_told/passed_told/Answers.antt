use Rattle.run_work.specs.of_master_hand.Spoken.{is_followed}
use Rattle.run_work.specs.of_slave_parts.Served.{product_whole}
use Rattle.served_rings.proofs.Slaves.{slave_tells}
use Rattle.served_rings.proofs.Passed as Passed
use Rattle.served_rings.proofs.last_told.passed_told.Goals as goal

pub returns : goal.returns
returns g c = λ o p law is m answers calm. Passed.passed_told (product_whole o p) is_followed (slave_tells o law p is) m answers calm
