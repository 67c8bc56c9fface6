-- What is told of objects: the octets behind the header of an information answer.
use Rattle.std.specs.Prelude.{ℕ, ◌+◌, ◌*◌, ◌==◌, ◌||◌, nat_lt, Bool, true, false, List, [], ◌∷◌, ◌++◌, length, codes, count_by, if◌then◌else◌, Option, None, Some, Result, Ok, Err}
use Rattle.std.specs.List.{list_any}
use Rattle.std.specs.Map.{values_of}
use Rattle.byteorder.specs.Endian.{little_bytes}
use Rattle.ec_fields.specs.Fields.{bits_of}
use Rattle.object_dictionary.specs.declared.entry.EntrySpec.{EntrySpec}
use Rattle.object_dictionary.specs.declared.object.Object.{Object}
use Rattle.object_dictionary.specs.declared.service.SdoService.{SdoService}
use Rattle.object_dictionary.specs.declared.refusals.TheConstants.{NO_SUBINDEX, NOT_SUPPORTED}
use Rattle.object_dictionary.specs.Dictionary.{Table, object_of, is_variable, is_count, entry_at, read_from}

-- whether an entry has a bit of access
abbrev pub has_bit : ℕ → List EntrySpec → Bool
has_bit bit entries = list_any (λ (e : EntrySpec). bits_of e.access bit 1 == 1) entries

-- list 1 has all objects, and the lists 2 to 5 those with an entry that has access bit 6 to 9
abbrev pub is_in_list : ℕ → Object → Bool
is_in_list kind o = kind == 1 || has_bit (kind + 4) o.entries

-- the indexes of a list, each as 16 bits, rising
abbrev pub list_octets : ℕ → Table → List ℕ
list_octets kind [] = []
list_octets kind (row ∷ rows) = if is_in_list kind row.1 then little_bytes 2 row.0 ++ list_octets kind rows else list_octets kind rows

-- how many objects a list has
abbrev pub list_count : ℕ → Table → ℕ
list_count kind table = count_by (is_in_list kind) (values_of table)

-- list type 0: the lengths of the lists 1 to 5
abbrev pub counts_octets : Table → List ℕ
counts_octets table =
    little_bytes 2 (list_count 1 table) ++ little_bytes 2 (list_count 2 table) ++ little_bytes 2 (list_count 3 table)
    ++ little_bytes 2 (list_count 4 table) ++ little_bytes 2 (list_count 5 table)

-- what the list of a kind tells; above 5 there is none
abbrev pub list_info : Table → ℕ → Result (List ℕ) ℕ
list_info table kind =
    if nat_lt 5 kind then Err NOT_SUPPORTED
    else if kind == 0 then Ok (little_bytes 2 0 ++ counts_octets table)
    else Ok (little_bytes 2 kind ++ list_octets kind table)

-- the greatest subindex
abbrev pub greatest_sub : Object → ℕ
greatest_sub o = if is_variable o then 0 else length o.entries

-- the type of the first entry: subindex 0 of a variable, subindex 1 of an array or record
abbrev pub first_kind : List EntrySpec → ℕ
first_kind [] = 0
first_kind (e ∷ es) = e.kind

-- an object: its index, first data type, greatest subindex, object code and name
abbrev pub described : ℕ → Object → List ℕ
described index o = little_bytes 2 index ++ little_bytes 2 (first_kind o.entries) ++ greatest_sub o ∷ o.code ∷ o.name

-- the description of the object of an index
abbrev pub object_info : Table → ℕ → Result (List ℕ) ℕ
object_info table index = read_from (λ o. Ok (described index o)) (object_of table index)

-- an entry's description: its value info is 0, and its bit length is that of its greatest size
abbrev pub entry_octets : ℕ → ℕ → ℕ → ℕ → ℕ → List ℕ → List ℕ
entry_octets index sub kind most access name =
    little_bytes 2 index ++ sub ∷ 0 ∷ (little_bytes 2 kind ++ little_bytes 2 (8 * most) ++ little_bytes 2 access ++ name)

-- the description of an entry that is there
abbrev pub found_info : ℕ → ℕ → Option EntrySpec → Result (List ℕ) ℕ
found_info index sub None = Err NO_SUBINDEX
found_info index sub (Some e) = Ok (entry_octets index sub e.kind e.most e.access e.name)

-- the number of entries is an UNSIGNED8 that can be read
abbrev pub entry_described : ℕ → Object → ℕ → Result (List ℕ) ℕ
entry_described index o sub = if is_count o sub then Ok (entry_octets index 0 5 1 7 (codes "count")) else found_info index sub (entry_at o sub)

-- the description of the entry of an index and subindex
abbrev pub entry_info : Table → ℕ → ℕ → Result (List ℕ) ℕ
entry_info table index sub = read_from (λ o. entry_described index o sub) (object_of table index)

-- what an information service asks for
abbrev pub info : Table → SdoService → Result (List ℕ) ℕ
info table (SdoService.List kind) = list_info table kind
info table (SdoService.ObjectInfo index) = object_info table index
info table (SdoService.EntryInfo index sub value) = entry_info table index sub
info table _ = Err NOT_SUPPORTED

-- whether a service asks for information
abbrev pub is_question : SdoService → Bool
is_question (SdoService.List kind) = true
is_question (SdoService.ObjectInfo index) = true
is_question (SdoService.EntryInfo index sub value) = true
is_question _ = false
