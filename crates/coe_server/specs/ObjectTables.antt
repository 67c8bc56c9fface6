-- The object dictionary as the tables that a server works on.
use Rattle.std.specs.Prelude.{ℕ, List, [], if◌then◌else◌, Option, Result}
use Rattle.object_dictionary.specs.Dictionary.{Table, check_download, download, upload}
use Rattle.object_dictionary.specs.Whole.{check_download_all, download_all, upload_all}
use Rattle.object_dictionary.specs.Information.{list_info, object_info, entry_info}
use Rattle.object_dictionary.specs.Sound.{is_table}
use Rattle.protocol_models.specs.Tables.{Target, Ask, list, object, entry, Tables}

-- an entry by its subindex, or all entries by complete access
abbrev pub checks : ℕ → Table → Target → ℕ → Option ℕ
checks al table t size = if t.all then check_download_all al table t.index t.sub size else check_download al table t.index t.sub size

-- the table behind a download
abbrev pub stores : ℕ → Table → Target → List ℕ → Result Table ℕ
stores al table t bytes = if t.all then download_all al table t.index t.sub bytes else download al table t.index t.sub bytes

-- the value of an upload
abbrev pub reads : ℕ → Table → Target → Result (List ℕ) ℕ
reads al table t = if t.all then upload_all al table t.index t.sub else upload al table t.index t.sub

-- what is told of objects
abbrev pub tells : Table → Ask → Result (List ℕ) ℕ
tells table (list kind) = list_info table kind
tells table (object index) = object_info table index
tells table (entry index sub info) = entry_info table index sub

-- The tables at an AL state. The dictionary leaves a packet to its slave's sender: `cut` are the bodies of the fragments that this makes of it.
abbrev pub tables_with : (List ℕ → List (List ℕ)) → ℕ → Tables Table
tables_with cut al = record {
  valid = is_table;
  check = checks al;
  download = stores al;
  upload = reads al;
  info = tells;
  packet = λ table octets. (table, cut octets);
}

-- the tables where no packet is cut
abbrev pub object_tables : ℕ → Tables Table
object_tables al = tables_with (λ octets. []) al
