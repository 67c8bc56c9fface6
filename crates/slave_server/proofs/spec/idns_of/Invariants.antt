use Rattle.slave_server.proofs.Idns.{HasTaken}
use Rattle.slave_server.proofs.spec.idns_of.Given as goal

abbrev pub invariant-loop-idn : goal.invariant-loop-idn
invariant-loop-idn l = HasTaken l.spec.idns l.idn-index l.idns
