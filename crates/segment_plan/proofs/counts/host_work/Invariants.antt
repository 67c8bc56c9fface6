use Rattle.std.proofs.Common.{◌≡◌, ◌≤◌, ◌*◌, length, sum_by, take}
use Rattle.segment_plan.specs.Bound.{spread}
use Rattle.segment_plan.proofs.counts.host_work.Given as goal

abbrev pub invariant-loop-packet : goal.invariant-loop-packet
invariant-loop-packet l = (l.work ≡ sum_by (λ packet. spread l.n (length packet.items)) (take l.packet-index l.host)) × (l.work ≤ 72250 * l.packet-index)
