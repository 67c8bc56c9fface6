-- The names and types of objects and entries (ETG.1000.6, section 5.6.7) in a slave's plan.
use Rattle.std.specs.Prelude.{ℕ, ◌-◌, ◌==◌, ◌&&◌, ◌||◌, not, Bool, List, [], ◌++◌, length, find, slice_get, codes, Option, Some, None, if◌then◌else◌}
use Rattle.object_dictionary.specs.declared.entry.EntrySpec.{EntrySpec}
use Rattle.segment_plan.specs.declared.slave.SlaveSpec.{SlaveSpec}
use Rattle.segment_plan.specs.declared.slave.ObjectSpec.{ObjectSpec}
use Rattle.value_texts.specs.Texts.{quoted}

-- the object of an index
abbrev pub object_in : SlaveSpec → ℕ → Option ObjectSpec
object_in slave index = find (λ (o : ObjectSpec). o.index == index) slave.objects

-- the name of an object of the slave's own: of 2F00, and with EoE of 2F01
unfoldable pub own_name : SlaveSpec → ℕ → List ℕ
own_name slave index =
    if slave.coe && index == 12032 then codes "Emergency"
    else if slave.coe && slave.eoe && index == 12033 then codes "Packet"
    else []

-- subindex 0 of an array or record is the number of its entries
abbrev pub is_count : ObjectSpec → ℕ → Bool
is_count o sub = not (o.code == 7) && sub == 0

-- the place of an entry: a variable has one, at subindex 0, and other objects have them from subindex 1 on
abbrev pub place_of : ObjectSpec → ℕ → ℕ
place_of o sub = if o.code == 7 then sub else sub - 1

-- the entry of a subindex
abbrev pub entry_of : ObjectSpec → ℕ → Option EntrySpec
entry_of o sub = slice_get o.entries (place_of o sub)

-- the name of an object, or else of the slave's own
abbrev pub object_called : Option ObjectSpec → List ℕ → List ℕ
object_called (Some o) own = o.name
object_called None own = own

-- the name of the object of an index, empty where it has none
unfoldable pub object_name : SlaveSpec → ℕ → List ℕ
object_name slave index = object_called (object_in slave index) (own_name slave index)

-- the name of an entry that may be there
abbrev pub entry_called : Option EntrySpec → List ℕ
entry_called (Some e) = e.name
entry_called None = []

-- the name of the entry of a subindex
unfoldable pub name_in : ObjectSpec → ℕ → List ℕ
name_in o sub = if is_count o sub then codes "count" else entry_called (entry_of o sub)

-- the same of an object of the slave's own
unfoldable pub own_entry : SlaveSpec → ℕ → ℕ → List ℕ
own_entry slave index sub = if not (length (own_name slave index) == 0) && sub == 0 then codes "count" else []

-- the name of an entry, of the plan or else of the slave's own
abbrev pub called : Option ObjectSpec → ℕ → List ℕ → List ℕ
called (Some o) sub own = name_in o sub
called None sub own = own

-- the name of the entry of an index and subindex, empty where it has none
unfoldable pub entry_name : SlaveSpec → ℕ → ℕ → List ℕ
entry_name slave index sub = called (object_in slave index) sub (own_entry slave index sub)

-- the data types of an object of the slave's own: the number of its entries is an UNSIGNED8, and what its download emits an OCTET_STRING
unfoldable pub own_kind : SlaveSpec → ℕ → ℕ → Option ℕ
own_kind slave index sub =
    if length (own_name slave index) == 0 then None
    else if sub == 0 then Some 5
    else if sub == 1 then Some 10
    else None

-- the data type of an entry that may be there
abbrev pub typed_as : Option EntrySpec → Option ℕ
typed_as (Some e) = Some e.kind
typed_as None = None

-- the data type of the entry of a subindex
unfoldable pub kind_in : ObjectSpec → ℕ → Option ℕ
kind_in o sub = if is_count o sub then Some 5 else typed_as (entry_of o sub)

-- the data type of an entry, of the plan or else of the slave's own
abbrev pub kind_of : Option ObjectSpec → ℕ → Option ℕ → Option ℕ
kind_of (Some o) sub own = kind_in o sub
kind_of None sub own = own

-- THE DATA TYPE of the entry of an index and subindex, None where the slave has no such entry
unfoldable pub kind_at : SlaveSpec → ℕ → ℕ → Option ℕ
kind_at slave index sub = kind_of (object_in slave index) sub (own_kind slave index sub)

-- a blank between two names that are there
unfoldable pub gap : List ℕ → List ℕ → List ℕ
gap name other = if length name == 0 || length other == 0 then [] else codes " "

-- two names with a blank between them where both are there
unfoldable pub joined : List ℕ → List ℕ → List ℕ
joined name other = name ++ (gap name other ++ other)

-- a name in quotes behind a blank, where there is one
unfoldable pub in_quotes : List ℕ → List ℕ
in_quotes name = if length name == 0 then [] else codes " " ++ quoted name

-- the name of an object
unfoldable pub object_text : SlaveSpec → ℕ → List ℕ
object_text slave index = in_quotes (object_name slave index)

-- THE NAMES of an object and its entry in one pair of quotes
unfoldable pub names_text : SlaveSpec → ℕ → ℕ → List ℕ
names_text slave index sub = in_quotes (joined (object_name slave index) (entry_name slave index sub))
