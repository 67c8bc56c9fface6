use Rattle.std.proofs.Common.{◌≤◌, ◌-◌}
use Rattle.ethercat_places.proofs.Walking.{IsWalking}
use Rattle.ethercat_places.proofs.frame.walk_over.Given as goal

abbrev pub invariant-datagrams : goal.invariant-datagrams
invariant-datagrams l = record { inside : l.at ≤ l.size; few : l.visible ≤ l.at; walk : IsWalking l.octets l.size l.visible l.at }

abbrev pub decreases-datagrams : goal.decreases-datagrams
decreases-datagrams l = l.size - l.at
