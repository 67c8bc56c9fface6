use Rattle.std.proofs.Common.{◌≡◌, take}
use Rattle.slave_server.proofs.spec.copy_of_object.Given as goal

abbrev pub invariant-loop-entry : goal.invariant-loop-entry
invariant-loop-entry l = l.entries ≡ take l.entry-index l.object.entries
