use Rattle.std.proofs.Common.{◌≡◌, drop}
use Rattle.ec_outside.specs.Files.{place_of}
use Rattle.ec_outside.proofs.mem_files.MemFiles.place_of.Given as goal

abbrev pub invariant-loop-at : goal.invariant-loop-at
invariant-loop-at l = place_of l.name l.at (drop l.at l.file-items) ≡ place_of l.name 0 l.self.files
