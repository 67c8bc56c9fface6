use Rattle.slave_server.proofs.Objects.{HasTaken}
use Rattle.slave_server.proofs.spec.objects_of.Given as goal

abbrev pub invariant-loop-object : goal.invariant-loop-object
invariant-loop-object l = HasTaken l.spec.objects l.spec.eoe l.object-index l.objects
