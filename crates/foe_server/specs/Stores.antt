-- The files of a store, at an AL state, as a server works on them.
use Rattle.std.specs.Prelude.{ℕ}
use Rattle.file_store.specs.Files.{Kept, is_valid, allowed, has_room, put, get, busy_of}
use Rattle.protocol_models.specs.Files.{Files}

-- the files, asked at this AL state
abbrev pub store_files : ℕ → Files Kept
store_files al = record {
  valid = is_valid;
  allowed = λ kept name pass write. allowed kept name pass write al;
  has_room = has_room;
  put = put;
  get = get;
  busy = busy_of;
}
