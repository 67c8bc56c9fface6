use Rattle.std.proofs.Common.{◌≡◌, replicate}
use Rattle.eoe_switch.specs.Switch.{first_port}
use Rattle.eoe_switch.proofs.switching.new_ports.Given as goal

abbrev pub invariant-loop : goal.invariant-loop
invariant-loop l = l.rows ≡ replicate l.counter first_port
