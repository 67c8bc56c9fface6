use Rattle.slave_server.proofs.Files.{HasTaken}
use Rattle.slave_server.proofs.spec.store_of.Given as goal

abbrev pub invariant-loop-file : goal.invariant-loop-file
invariant-loop-file l = HasTaken l.spec.files l.spec.blocks l.file-index l.store
