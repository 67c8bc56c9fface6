use Rattle.std.proofs.Common.{arith}
use Rattle.std.proofs.lemmas.Grind.{common_steps}
use Rattle.foe_server.proofs.server.FoeServer.store_packet.Goals as goal

pub returns-then-bytes-self-clause-does : goal.returns-then-bytes-self-clause-does
returns-then-bytes-self-clause-does c = λ al. grind (arith, common_steps, c.close.ensures.does al)
