use Rattle.std.proofs.Common.{List, length}
use Rattle.gateway_core.specs.of_ec_outside.Port.{HeardGram}
use Rattle.gateway_run.specs.Desk.{IsSound}
use Rattle.gateway_run.proofs.Told.{IsGivingUp}
use Rattle.gateway_run.proofs.desk.Desk.give_up.Given as goal

abbrev pub invariant-loop-request : goal.invariant-loop-request
invariant-loop-request l = (heard : List HeardGram) → IsSound heard l.fn.self → IsGivingUp heard l.slave l.fn.self l.self

abbrev pub decreases-loop-request : goal.decreases-loop-request
decreases-loop-request l = length l.self.requests.items
