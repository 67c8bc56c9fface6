use Rattle.std.proofs.Common.{List, drop}
use Rattle.gateway_core.specs.of_ec_outside.Port.{HeardGram}
use Rattle.gateway_run.specs.Events.{events_of}
use Rattle.gateway_run.specs.Desk.{IsSound}
use Rattle.gateway_run.proofs.Told.{IsNoting}
use Rattle.gateway_run.proofs.desk.Desk.note_all.Given as goal

abbrev pub invariant-loop-event : goal.invariant-loop-event
invariant-loop-event l =
    (heard : List HeardGram) → IsSound heard l.fn.self → IsNoting heard (events_of l.session.master) (drop l.event-index (events_of l.session.master)) l.fn.self l.self
