use Rattle.run_promises.proofs.Long.{all_long}
use Rattle.run_promises.proofs.Sendings.{all_send_whole}
use Rattle.run_promises.proofs.whole_packets.whole_packets_law.Goals as goal

pub returns : goal.returns
returns c = record { whole = λ plan is known ws ns d. all_send_whole plan.slaves ws ns d is.laid.slaves known.macs; long = λ ss ws ns d sends k. all_long ss ws ns d sends k }
