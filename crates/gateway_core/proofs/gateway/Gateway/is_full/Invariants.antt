use Rattle.std.proofs.Common.{◌≡◌, ◌+◌, ◌<◌, ◌==◌, ℕ, count_by}
use Rattle.gateway_core.specs.declared.asker.Asker.{Asker}
use Rattle.gateway_core.specs.Gateway.{unfinished_at}
use Rattle.gateway_core.proofs.gateway.Gateway.is_full.Given as goal

abbrev pub invariant-loop-asker : goal.invariant-loop-asker
invariant-loop-asker l =
    (goal.iterator-loop-asker).can_next l.asker-iterator ×
    (goal.iterator-loop-asker).is_finite l.asker-iterator ×
    (l.many < 64) ×
    (l.many + count_by (λ (entry : ℕ × Asker). entry.1.slave == l.slave) l.asker-iterator ≡ unfinished_at l.slave l.self)
