-- The IDNs of a slave on whole elements: what is kept of each, and each service on them with its codes in their order.
use Rattle.std.specs.Prelude.{◌≡◌, ℕ, ◌^◌, ◌==◌, ◌&&◌, ◌||◌, not, nat_eq, nat_le, nat_lt, Bool, true, false, List, [], ◌∷◌, length, if◌then◌else◌, Option, None, Some, Result, Ok, Err}
use Rattle.std.specs.List.{list_all}
use Rattle.std.specs.Map.{lookup, set_value, keys_of}
use Rattle.byteorder.specs.Endian.{little_bytes, little_number}
use Rattle.protocol_models.specs.Elements.{Target, Elements}
pub use Rattle.protocol_models.specs.Elements.{target}
use Rattle.idn_table.specs.declared.element.Element.{Element}
use Rattle.idn_table.specs.declared.element.Element.TheVariants.{State, Name, Attribute, Unit as UnitOf, Minimum, Maximum, Value}
use Rattle.idn_table.specs.declared.spec.IdnSpec.{IdnSpec}

-- an IDN: its elements, and what bounds its value
pub record Kept : Type 0 where
  pub attribute : ℕ
  pub label : Option (List ℕ)
  pub unit : Option (List ℕ)
  pub least : ℕ
  pub most : ℕ
  pub min : Option ℕ
  pub max : Option ℕ
  pub writable : Bool
  pub value : List ℕ

-- an IDN as it is described
abbrev pub idn_of : IdnSpec → Kept
idn_of s = record { attribute = s.attribute; label = s.label; unit = s.unit; least = s.least; most = s.most; min = s.min; max = s.max; writable = s.writable; value = s.value }

-- IDNs by drive and number
abbrev pub Key : Type 0
Key = ℕ × ℕ

-- IDNs by their keys
abbrev pub Table : Type 0
Table = List (Key × Kept)

-- the key of an IDN as it is described
abbrev pub key_of : IdnSpec → Key
key_of s = (s.drive, s.number)

-- whether two keys are the same
abbrev pub is_key : Key → Key → Bool
is_key key k = nat_eq key.0 k.0 && nat_eq key.1 k.1

-- the IDN that a target names
abbrev pub idn_at : Table → Target → Option Kept
idn_at idns t = lookup (is_key (t.drive, t.idn)) idns

-- a name or a unit has at most 40 octets
abbrev pub is_text : Option (List ℕ) → Bool
is_text None = true
is_text (Some octets) = nat_le (length octets) 40

-- the value's octets are within its sizes, of 1 to 4,096 octets
abbrev pub is_sized : Kept → Bool
is_sized i = nat_le 1 i.least && nat_le i.most 4096 && nat_le i.least (length i.value) && nat_le (length i.value) i.most

-- a bound stands only at a value of one size up to 8 octets, and fits it
abbrev pub is_bound : Kept → Option ℕ → Bool
is_bound i None = true
is_bound i (Some b) = i.least == i.most && nat_le i.most 8 && nat_lt b (256 ^ i.most)

-- an IDN as one may be described
abbrev pub is_idn : Kept → Bool
is_idn i = is_text i.label && is_text i.unit && is_sized i && is_bound i i.min && is_bound i i.max

-- by drive, then by number
abbrev pub is_below : Key → Key → Bool
is_below key k = nat_lt key.0 k.0 || nat_eq key.0 k.0 && nat_lt key.1 k.1

-- every one is above the one before
abbrev pub is_rising : List Key → Bool
is_rising [] = true
is_rising (key ∷ keys) = list_all (is_below key) keys && is_rising keys

-- a key with its IDN
abbrev pub is_row : Key × Kept → Bool
is_row row = is_idn row.1

-- the IDNs that a table may have: each as one may be described, by rising drive and number
abbrev pub are_idns : Table → Bool
are_idns idns = is_rising (keys_of idns) && list_all is_row idns

-- a table with one IDN more, at its place among the keys
abbrev pub placed : Key → Kept → Table → Table
placed key i [] = (key, i) ∷ []
placed key i (row ∷ rows) = if is_below key row.0 then (key, i) ∷ row ∷ rows else row ∷ placed key i rows

-- the element of flags of which exactly one of the bits 0 to 6 is set
abbrev pub element_of : ℕ → Option Element
element_of flags =
    if flags == 0x01 then Some State
    else if flags == 0x02 then Some Name
    else if flags == 0x04 then Some Attribute
    else if flags == 0x08 then Some UnitOf
    else if flags == 0x10 then Some Minimum
    else if flags == 0x20 then Some Maximum
    else if flags == 0x40 then Some Value
    else None

-- octets that may be missing, or their code
abbrev pub there : ℕ → Option (List ℕ) → Result (List ℕ) ℕ
there code None = Err code
there code (Some octets) = Ok octets

-- a bound in as many octets as the value has
abbrev pub bound_octets : Kept → Option ℕ → Option (List ℕ)
bound_octets i None = None
bound_octets i (Some b) = Some (little_bytes (length i.value) b)

-- the octets of an element
abbrev pub element_read : Kept → Element → Result (List ℕ) ℕ
element_read i State = Ok (0 ∷ 0 ∷ [])
element_read i Name = there 0x2001 i.label
element_read i Attribute = Ok (little_bytes 4 i.attribute)
element_read i UnitOf = there 0x4001 i.unit
element_read i Minimum = there 0x5001 (bound_octets i i.min)
element_read i Maximum = there 0x6001 (bound_octets i i.max)
element_read i Value = Ok i.value

-- no IDN, then the flags, then the element
abbrev pub read_by : Option Kept → Option Element → Result (List ℕ) ℕ
read_by None element = Err 0x1001
read_by (Some i) None = Err 0x1009
read_by (Some i) (Some element) = element_read i element

-- the octets of the element that a target names, or the code that refuses it
abbrev pub read_at : Table → Target → Result (List ℕ) ℕ
read_at idns t = read_by (idn_at idns t) (element_of t.elements)

-- whether a value is below the minimum, or above the maximum
abbrev pub under : Option ℕ → List ℕ → Bool
under None bytes = false
under (Some b) bytes = nat_lt (little_number (length bytes) bytes) b

-- whether a value is above a bound
abbrev pub over : Option ℕ → List ℕ → Bool
over None bytes = false
over (Some b) bytes = nat_lt b (little_number (length bytes) bytes)

-- whether a value is below the minimum of an IDN
abbrev pub is_under : Kept → List ℕ → Bool
is_under i bytes = under i.min bytes

-- whether a value is above the maximum of an IDN
abbrev pub is_over : Kept → List ℕ → Bool
is_over i bytes = over i.max bytes

-- what refuses a value: it isn't writable, it is too short or too long, it is below the minimum or above the maximum
abbrev pub value_code : Kept → List ℕ → Option ℕ
value_code i bytes =
    if not i.writable then Some 0x7004
    else if nat_lt (length bytes) i.least then Some 0x7002
    else if nat_lt i.most (length bytes) then Some 0x7003
    else if is_under i bytes then Some 0x7006
    else if is_over i bytes then Some 0x7007
    else None

-- what refuses a write of an element: the state is none that a write may name, and of the others only the value may be written
abbrev pub write_code : Kept → Element → List ℕ → Option ℕ
write_code i State bytes = Some 0x1009
write_code i Name bytes = Some 0x2004
write_code i Attribute bytes = Some 0x3004
write_code i UnitOf bytes = Some 0x4004
write_code i Minimum bytes = Some 0x5004
write_code i Maximum bytes = Some 0x6004
write_code i Value bytes = value_code i bytes

-- no IDN, then the flags, then the element
abbrev pub write_code_by : Option Kept → Option Element → List ℕ → Option ℕ
write_code_by None element bytes = Some 0x1001
write_code_by (Some i) None bytes = Some 0x1009
write_code_by (Some i) (Some element) bytes = write_code i element bytes

-- what refuses a write of the element that a target names
abbrev pub write_code_at : Option Kept → Target → List ℕ → Option ℕ
write_code_at i t bytes = write_code_by i (element_of t.elements) bytes

-- the table with these octets as the value of an IDN
abbrev pub stored : Table → Target → Option Kept → List ℕ → Table
stored idns t None bytes = idns
stored idns t (Some i) bytes = set_value (is_key (t.drive, t.idn)) idns (record i { value = bytes })

-- the table behind a write, or the code
abbrev pub written_by : Table → Option ℕ → Result Table ℕ
written_by changed None = Ok changed
written_by changed (Some code) = Err code

-- the table behind a write, or the code that refuses it
abbrev pub write_at : Table → Target → List ℕ → Result Table ℕ
write_at idns t bytes = written_by (stored idns t (idn_at idns t) bytes) (write_code_at (idn_at idns t) t bytes)

-- the IDNs of a slave, as an SoE server sees them
abbrev pub idn_elements : Elements Table
idn_elements = record { valid = are_idns; read = read_at; write = write_at }

-- octets that were read, by what the call answers; after a refusal there are none
abbrev pub Reads : Result (List ℕ) ℕ → Option ℕ → List ℕ → Type 0
Reads value None octets = value ≡ Ok octets
Reads value (Some code) octets = (value ≡ Err code) × (octets ≡ [])

-- a table after a write, by what the call answers
abbrev pub Stores : Result Table ℕ → Option ℕ → Table → Table → Type 0
Stores write None old new = write ≡ Ok new
Stores write (Some code) old new = (write ≡ Err code) × (new ≡ old)
