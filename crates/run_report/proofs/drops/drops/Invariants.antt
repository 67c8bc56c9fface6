use Rattle.std.proofs.Common.{◌≡◌, ◌≤◌, ◌+◌, ◌*◌, length, drop}
use Rattle.run_book.specs.of_eoe_switch.Switch.{first_switch}
use Rattle.run_book.specs.Ports.{ports_of}
use Rattle.run_report.specs.Drops.{drops_in}
use Rattle.run_report.proofs.drops.drops.Given as goal

abbrev pub invariant-loop-event : goal.invariant-loop-event
invariant-loop-event l = record {
  rest : l.drops + drops_in l.switch (drop l.event-index l.events) ≡ drops_in (first_switch (ports_of l.slaves)) l.events;
  ports : length l.switch.ports ≡ ports_of l.slaves;
  few : l.drops ≤ 17 * l.event-index;
}
