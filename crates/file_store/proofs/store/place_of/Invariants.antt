use Rattle.std.proofs.Common.{◌≡◌, ℕ, ◌<◌, get_or, false}
use Rattle.file_store.specs.declared.file.File.{File}
use Rattle.file_store.specs.Store.{has_name}
use Rattle.file_store.proofs.store.place_of.Given as goal

abbrev pub invariant-loop-place : goal.invariant-loop-place
invariant-loop-place l = (k : ℕ) (d : File) → k < l.place → has_name l.name (get_or l.files k d) ≡ false
