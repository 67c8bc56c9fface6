use Rattle.std.proofs.Common.{length}
use Rattle.run_record.proofs.session.+put_slaves.Given as goal

abbrev pub decreases-put_slaves : goal.decreases-put_slaves
decreases-put_slaves l = length l.nodes
