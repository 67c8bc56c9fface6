use Rattle.segment_ring.proofs.Schedules.{starts}
use Rattle.segment_ring.proofs.ring.Ring.new.Goals as goal

pub invariant_of-result : goal.invariant_of-result
invariant_of-result g c = (c.requires.paced, c.requires.paces, c.requires.lose, starts c.args.lose, c.requires.few)
