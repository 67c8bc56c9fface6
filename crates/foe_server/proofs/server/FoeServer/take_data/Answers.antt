use Rattle.std.proofs.Common.{arith}
use Rattle.std.proofs.lemmas.Grind.{common_steps}
use Rattle.foe_server.proofs.server.FoeServer.take_data.Goals as goal

pub returns-else-packet-number-clause-does : goal.returns-else-packet-number-clause-does
returns-else-packet-number-clause-does c = λ al. grind (arith, common_steps, c.store_packet.ensures.does al)

pub returns-else-packet-number-2-clause-does : goal.returns-else-packet-number-2-clause-does
returns-else-packet-number-2-clause-does c = λ al. grind (arith, common_steps, c.close.ensures.does al)
