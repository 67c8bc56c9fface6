use Rattle.run_work.specs.of_whole_ring.Members.{Passes}
use Rattle.served_rings.proofs.Rings.{all_led, led_begins, led_turns}
use Rattle.served_rings.proofs.led_rings.led_ring_law.Goals as goal

pub returns-clause-begins : goal.returns-clause-begins
returns-clause-begins g k = λ lens step test more passed nodes ms ks long new. led_begins lens step (Passes test) more passed 0 ms ks nodes long new

pub returns-clause-turns : goal.returns-clause-turns
returns-clause-turns g k = λ lens step test more passed nodes fs ring octets ds ms ks turns is_frame r asks led told now. led_turns lens step (Passes test) more passed fs ring octets ds is_frame ms ks turns nodes now r asks led told

pub returns-clause-led : goal.returns-clause-led
returns-clause-led g k = λ more passed nodes fs ms ks stood. all_led more passed fs ms ks nodes stood
