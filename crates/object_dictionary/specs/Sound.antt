-- Which entries and objects a dictionary may have.
use Rattle.std.specs.Prelude.{ℕ, ◌==◌, ◌&&◌, nat_lt, nat_le, Bool, true, List, [], ◌∷◌, length, replicate, codes, if◌then◌else◌, None, is_none}
use Rattle.std.specs.List.{list_all}
use Rattle.std.specs.Map.{keys_of}
use Rattle.object_dictionary.specs.declared.entry.EntrySpec.{EntrySpec}
use Rattle.object_dictionary.specs.declared.object.Object.{Object}
use Rattle.object_dictionary.specs.Entries.{is_entry}
use Rattle.object_dictionary.specs.Dictionary.{Table, object_of}
use Rattle.object_dictionary.specs.Whole.{sizes}

-- entries that a dictionary may have
abbrev pub are_entries : List EntrySpec → Bool
are_entries entries = list_all is_entry entries

-- a variable has one entry, an array or record 1 to 254, of 16,000 octets together
abbrev pub is_object : Object → Bool
is_object o =
    nat_le 1 (length o.entries) && nat_le (length o.entries) (if o.code == 7 then 1 else 254)
    && nat_le (sizes o.entries) 16000 && nat_le (length o.name) 40 && are_entries o.entries

-- whether each entry has these sizes at least and at most
abbrev pub are_sized : ℕ → ℕ → List EntrySpec → Bool
are_sized least most entries = list_all (λ (e : EntrySpec). e.least == least && e.most == most) entries

-- an emergency has 8 octets, and a packet 14 to 1,514
abbrev pub is_emitter : ℕ → Object → Bool
is_emitter index o =
    if index == 0x2F00 then are_sized 8 8 o.entries
    else if index == 0x2F01 then are_sized 14 1514 o.entries
    else true

-- an index with its object
abbrev pub is_row : ℕ × Object → Bool
is_row row = is_object row.1 && is_emitter row.0 row.1

-- every one is above the one before
abbrev pub is_rising : List ℕ → Bool
is_rising [] = true
is_rising (index ∷ indexes) = list_all (nat_lt index) indexes && is_rising indexes

-- the tables that a dictionary may have: the profile's two objects and 256 more
abbrev pub is_table : Table → Bool
is_table table = is_rising (keys_of table) && nat_le (length table) 258 && list_all is_row table

-- an object that a table takes besides its own
abbrev pub is_accepted : ℕ → Object → Table → Bool
is_accepted index o table = is_none (object_of table index) && nat_lt (length table) 258 && is_object o && is_emitter index o

-- a table with one object more, at its place among the indexes
abbrev pub placed : ℕ → Object → Table → Table
placed index o [] = (index, o) ∷ []
placed index o (row ∷ rows) = if nat_lt index row.0 then (index, o) ∷ row ∷ rows else row ∷ placed index o rows

-- an OCTET_STRING that can be written in each state, and never read: these octets at first, and at most so many
abbrev pub emitter_entry : List ℕ → ℕ → EntrySpec
emitter_entry zeros most = record { kind = 10; access = 0x38; least = length zeros; most = most; min = None; max = None; name = []; value = zeros }

-- a record of this name with one such entry
abbrev pub emitter_object : List ℕ → List ℕ → ℕ → Object
emitter_object name zeros most = record { code = 8; name = name; entries = emitter_entry zeros most ∷ [] }

-- the profile's own objects: whose download emits an emergency and, where EoE is served, a packet
abbrev pub own_table : Bool → Table
own_table eoe =
    (0x2F00, emitter_object (codes "Emergency") (replicate 8 0) 8)
    ∷ (if eoe then (0x2F01, emitter_object (codes "Packet") (replicate 14 0) 1514) ∷ [] else [])
