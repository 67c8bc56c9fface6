use Rattle.std.proofs.Common.{◌≡◌, ◌<◌, ℕ, []}
use Rattle.eoe_switch.specs.Switch.{queue_at}
use Rattle.master_node.proofs.lan.Lan.is_quiet.Given as goal

abbrev pub invariant-loop-port : goal.invariant-loop-port
invariant-loop-port l = (p : ℕ) → p < l.port → queue_at l.self.switch p ≡ []
