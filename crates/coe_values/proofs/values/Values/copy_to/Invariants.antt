use Rattle.std.proofs.Common.{◌-◌, ◌≡◌, ◌≤◌, take}
use Rattle.coe_values.specs.Slots.{octets_in}
use Rattle.coe_values.proofs.values.Values.copy_to.Given as goal

abbrev pub invariant-loop-done : goal.invariant-loop-done
invariant-loop-done l = (l.done ≤ l.len) × (l.into.octets ≡ take l.done (octets_in l.slot l.self)) × (l.into.limit ≡ l.fn.into.limit)

abbrev pub decreases-loop-done : goal.decreases-loop-done
decreases-loop-done l = l.len - l.done
