-- Objects by their indexes: the tables of downloads and uploads of one entry, with the abort codes in their order.
use Rattle.std.specs.Prelude.{ℕ, ◌-◌, ◌==◌, ◌&&◌, not, Bool, List, [], ◌∷◌, length, nat_eq, slice_get, slice_set, if◌then◌else◌, Option, None, Some, Result, Ok, Err}
use Rattle.std.specs.Map.{lookup, set_value}
use Rattle.object_dictionary.specs.declared.entry.EntrySpec.{EntrySpec}
use Rattle.object_dictionary.specs.declared.object.Object.{Object}
use Rattle.object_dictionary.specs.declared.refusals.TheConstants.{NO_OBJECT, NO_SUBINDEX, NOT_WRITABLE}
use Rattle.object_dictionary.specs.Entries.{check_entry, download_entry, upload_entry}

-- indexes and their objects, the indexes rising
abbrev pub Table : Type 0
Table = List (ℕ × Object)

-- the object of an index
abbrev pub object_of : Table → ℕ → Option Object
object_of table index = lookup (nat_eq index) table

-- object code 7: a variable, whose one entry has subindex 0
abbrev pub is_variable : Object → Bool
is_variable o = o.code == 7

-- subindex 0 of an array or record is the number of its entries
abbrev pub is_count : Object → ℕ → Bool
is_count o sub = not (is_variable o) && sub == 0

-- the entry of a subindex that is no count
abbrev pub entry_place : Object → ℕ → ℕ
entry_place o sub = if is_variable o then sub else sub - 1

-- the entry of a subindex
abbrev pub entry_at : Object → ℕ → Option EntrySpec
entry_at o sub = slice_get o.entries (entry_place o sub)

-- an object with other entries
abbrev pub with_entries : Object → List EntrySpec → Object
with_entries o entries = record { code = o.code; name = o.name; entries = entries }

-- a result with something done to what it holds
abbrev pub result_map : {X Y : Type 0} → (X → Y) → Result X ℕ → Result Y ℕ
result_map f (Ok x) = Ok (f x)
result_map f (Err code) = Err code

-- ---- why a download is refused by its size alone

-- an entry that is there refuses by its own rules; none is no subindex
abbrev pub check_found : ℕ → ℕ → Option EntrySpec → Option ℕ
check_found al size None = Some NO_SUBINDEX
check_found al size (Some e) = check_entry al e size

-- why an object refuses a download by its size: its count is read only
abbrev pub check_object : ℕ → Object → ℕ → ℕ → Option ℕ
check_object al o sub size = if is_count o sub then Some NOT_WRITABLE else check_found al size (entry_at o sub)

-- what is asked of the object of an index, if it is there
abbrev pub checked : (Object → Option ℕ) → Option Object → Option ℕ
checked check None = Some NO_OBJECT
checked check (Some o) = check o

-- why a dictionary refuses a download of one entry by its size
abbrev pub check_download : ℕ → Table → ℕ → ℕ → ℕ → Option ℕ
check_download al table index sub size = checked (λ o. check_object al o sub size) (object_of table index)

-- ---- a download: the object behind it, and the table

-- an object with a value stored in the entry of a subindex
abbrev pub download_found : ℕ → Object → ℕ → List ℕ → Option EntrySpec → Result Object ℕ
download_found al o place bytes None = Err NO_SUBINDEX
download_found al o place bytes (Some e) = result_map (λ changed. with_entries o (slice_set o.entries place changed)) (download_entry al e bytes)

-- an object behind a download of one of its entries
abbrev pub download_object : ℕ → Object → ℕ → List ℕ → Result Object ℕ
download_object al o sub bytes = if is_count o sub then Err NOT_WRITABLE else download_found al o (entry_place o sub) bytes (entry_at o sub)

-- the table with what was done to the object of an index
abbrev pub changed : Table → ℕ → (Object → Result Object ℕ) → Option Object → Result Table ℕ
changed table index change None = Err NO_OBJECT
changed table index change (Some o) = result_map (λ done. set_value (nat_eq index) table done) (change o)

-- a dictionary behind a download of one entry
abbrev pub download : ℕ → Table → ℕ → ℕ → List ℕ → Result Table ℕ
download al table index sub bytes = changed table index (λ o. download_object al o sub bytes) (object_of table index)

-- ---- an upload

-- the value of an entry that is there
abbrev pub upload_found : ℕ → Option EntrySpec → Result (List ℕ) ℕ
upload_found al None = Err NO_SUBINDEX
upload_found al (Some e) = upload_entry al e

-- what an object tells of a subindex: the count, or the value of an entry
abbrev pub upload_object : ℕ → Object → ℕ → Result (List ℕ) ℕ
upload_object al o sub = if is_count o sub then Ok (length o.entries ∷ []) else upload_found al (entry_at o sub)

-- what is read of the object of an index, if it is there
abbrev pub read_from : {X : Type 0} → (Object → Result X ℕ) → Option Object → Result X ℕ
read_from read None = Err NO_OBJECT
read_from read (Some o) = read o

-- the value of one entry of a dictionary
abbrev pub upload : ℕ → Table → ℕ → ℕ → Result (List ℕ) ℕ
upload al table index sub = read_from (λ o. upload_object al o sub) (object_of table index)
