use Rattle.std.proofs.Common.{◌+◌}
use Rattle.segment_ring.proofs.ring.RingWire.exchange.Goals as goal

pub step-requires-clause-few : goal.step-requires-clause-few
step-requires-clause-few g c = c.meet_by.ensures.few (9223372036854775808 + c.self.inside.number) c.self.invariant.4
