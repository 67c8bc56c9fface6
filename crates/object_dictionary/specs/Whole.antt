-- Complete access: an object as one value, of the number of its entries (from subindex 0) and the entries.
use Rattle.std.specs.Prelude.{ℕ, ◌+◌, ◌==◌, ◌&&◌, not, nat_lt, Bool, List, [], ◌∷◌, ◌++◌, length, take, drop, if◌then◌else◌, Option, None, Some, Result}
use Rattle.std.specs.List.{list_all}
use Rattle.ec_fields.specs.Fields.{number_at}
use Rattle.object_dictionary.specs.declared.entry.EntrySpec.{EntrySpec}
use Rattle.object_dictionary.specs.declared.object.Object.{Object}
use Rattle.object_dictionary.specs.declared.refusals.TheConstants.{NOT_SUPPORTED, ABOVE_MAXIMUM, BELOW_MINIMUM}
use Rattle.object_dictionary.specs.Entries.{or_else, unless, read_refusal, write_refusal, size_refusal, bound_refusal, with_value}
use Rattle.object_dictionary.specs.Dictionary.{Table, object_of, is_variable, with_entries, checked, changed, read_from}

-- entries whose sizes are fixed
abbrev pub are_fixed : List EntrySpec → Bool
are_fixed entries = list_all (λ (e : EntrySpec). e.least == e.most) entries

-- an array or record whose entries all have fixed sizes, from subindex 0 or 1 on
abbrev pub is_whole : Object → ℕ → Bool
is_whole o from = nat_lt from 2 && not (is_variable o) && are_fixed o.entries

-- the first refusal of entries in turn
abbrev pub first_refusal : (EntrySpec → Option ℕ) → List EntrySpec → Option ℕ
first_refusal refusal [] = None
first_refusal refusal (e ∷ es) = or_else (refusal e) (first_refusal refusal es)

-- the greatest sizes of entries, together
abbrev pub sizes : List EntrySpec → ℕ
sizes [] = 0
sizes (e ∷ es) = e.most + sizes es

-- the number of entries goes ahead as 16 bits
abbrev pub ahead : ℕ → ℕ
ahead from = if from == 0 then 2 else 0

-- the octets that complete access writes: the count, and each entry at its size
abbrev pub whole_size : Object → ℕ → ℕ
whole_size o from = ahead from + sizes o.entries

-- why an object refuses a download by complete access by its rights and its size
abbrev pub check_whole : ℕ → Object → ℕ → ℕ → Option ℕ
check_whole al o from size =
    if is_whole o from then or_else (first_refusal (write_refusal al) o.entries) (size_refusal (whole_size o from) (whole_size o from) size)
    else Some NOT_SUPPORTED

-- why a dictionary refuses a download by complete access by its size
abbrev pub check_download_all : ℕ → Table → ℕ → ℕ → ℕ → Option ℕ
check_download_all al table index from size = checked (λ o. check_whole al o from size) (object_of table index)

-- the number of entries that is written has to be the one that stands
abbrev pub count_refusal : Object → ℕ → List ℕ → Option ℕ
count_refusal o from bytes =
    if from == 0 then
    (if nat_lt (length o.entries) (number_at 2 bytes 0) then Some ABOVE_MAXIMUM
    else if nat_lt (number_at 2 bytes 0) (length o.entries) then Some BELOW_MINIMUM
    else None)
    else None

-- values of entries that stand one behind the other
abbrev pub values_refusal : List EntrySpec → List ℕ → Option ℕ
values_refusal [] bytes = None
values_refusal (e ∷ es) bytes = or_else (bound_refusal e (take e.most bytes)) (values_refusal es (drop e.most bytes))

-- entries that take their values from octets, one behind the other
abbrev pub with_values : List EntrySpec → List ℕ → List EntrySpec
with_values [] bytes = []
with_values (e ∷ es) bytes = with_value e (take e.most bytes) ∷ with_values es (drop e.most bytes)

-- all checks come before a write
abbrev pub whole_refusal : ℕ → Object → ℕ → List ℕ → Option ℕ
whole_refusal al o from bytes =
    or_else (check_whole al o from (length bytes)) (or_else (count_refusal o from bytes) (values_refusal o.entries (drop (ahead from) bytes)))

-- an object behind a download by complete access
abbrev pub download_whole : ℕ → Object → ℕ → List ℕ → Result Object ℕ
download_whole al o from bytes = unless (whole_refusal al o from bytes) (with_entries o (with_values o.entries (drop (ahead from) bytes)))

-- a dictionary behind a download by complete access
abbrev pub download_all : ℕ → Table → ℕ → ℕ → List ℕ → Result Table ℕ
download_all al table index from bytes = changed table index (λ o. download_whole al o from bytes) (object_of table index)

-- the values of entries, one behind the other
abbrev pub values_in : List EntrySpec → List ℕ
values_in [] = []
values_in (e ∷ es) = e.value ++ values_in es

-- the number of entries, where complete access begins with it
abbrev pub count_octets : Object → ℕ → List ℕ
count_octets o from = if from == 0 then length o.entries ∷ 0 ∷ [] else []

-- why an object is not read by complete access
abbrev pub read_whole_refusal : ℕ → Object → ℕ → Option ℕ
read_whole_refusal al o from = if is_whole o from then first_refusal (read_refusal al) o.entries else Some NOT_SUPPORTED

-- an object by complete access: the number of its entries, and their values
abbrev pub upload_whole : ℕ → Object → ℕ → Result (List ℕ) ℕ
upload_whole al o from = unless (read_whole_refusal al o from) (count_octets o from ++ values_in o.entries)

-- the object of an index by complete access
abbrev pub upload_all : ℕ → Table → ℕ → ℕ → Result (List ℕ) ℕ
upload_all al table index from = read_from (λ o. upload_whole al o from) (object_of table index)
