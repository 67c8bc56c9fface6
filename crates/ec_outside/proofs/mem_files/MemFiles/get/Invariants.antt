use Rattle.std.proofs.Common.{◌≡◌, drop}
use Rattle.ec_outside.specs.Files.{file_of}
use Rattle.ec_outside.proofs.mem_files.MemFiles.get.Given as goal

abbrev pub invariant-loop-file : goal.invariant-loop-file
invariant-loop-file l = file_of l.name (drop l.file-index l.file-items) ≡ file_of l.name l.self.files
