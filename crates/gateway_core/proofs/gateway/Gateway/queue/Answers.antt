use Rattle.std.proofs.Common.{refl, sym, arith}
use Rattle.gateway_core.proofs.Queuing.{queues_inside}
use Rattle.gateway_core.proofs.gateway.Gateway.queue.Goals as goal

pub returns-clause-ok : goal.returns-clause-ok
returns-clause-ok c =
    queues_inside (sym c.self.view_is) c.in-Ok.ensures.was_vacant c.in-Ok.ensures.updates (grind arith)
    (record { of_peer = refl; of_slave = refl; of_station = refl; of_counter = refl })
