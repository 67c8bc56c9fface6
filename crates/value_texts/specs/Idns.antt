-- The elements of IDNs (ETG.1000.6, section 5.10) in a slave's plan.
use Rattle.std.specs.Prelude.{ℕ, ◌==◌, ◌&&◌, ◌||◌, nat_le, Bool, false, List, [], ◌++◌, length, find, codes, Option, Some, None, if◌then◌else◌}
use Rattle.std.specs.Fmt.{decimal}
use Rattle.byteorder.specs.Endian.{little_number}
use Rattle.ec_fields.specs.Fields.{number_at}
use Rattle.reply_text.specs.Reply.{hex_of}
use Rattle.idn_table.specs.declared.spec.IdnSpec.{IdnSpec}
use Rattle.segment_plan.specs.declared.slave.SlaveSpec.{SlaveSpec}
use Rattle.value_texts.specs.Texts.{text, octets_text}

-- an element by its flag, empty where the flags are not one
abbrev pub element_word : ℕ → List ℕ
element_word elements =
    if elements == 1 then codes "state"
    else if elements == 2 then codes "name"
    else if elements == 4 then codes "attribute"
    else if elements == 8 then codes "unit"
    else if elements == 16 then codes "minimum"
    else if elements == 32 then codes "maximum"
    else if elements == 64 then codes "value"
    else []

-- an element in words, or the flags
unfoldable pub element_text : ℕ → List ℕ
element_text elements = if length (element_word elements) == 0 then codes "elements 0x" ++ hex_of 2 elements else element_word elements

-- the IDN of a drive and a number
abbrev pub idn_in : SlaveSpec → ℕ → ℕ → Option IdnSpec
idn_in slave drive number = find (λ (i : IdnSpec). i.drive == drive && i.number == number) slave.idns

-- so many octets are a number: the IDN has one size of up to 8 octets, which they have
abbrev pub is_number : IdnSpec → ℕ → Bool
is_number i size = i.least == i.most && (i.most == size && (nat_le 1 size && nat_le size 8))

-- the same of an IDN that may be there
abbrev pub is_number_of : Option IdnSpec → ℕ → Bool
is_number_of (Some i) size = is_number i size
is_number_of None size = false

-- so many octets are a number of the IDN of a drive and a number
abbrev pub has_number : SlaveSpec → ℕ → ℕ → ℕ → Bool
has_number slave drive number size = is_number_of (idn_in slave drive number) size

-- a number, the lowest octet first, or octets
unfoldable pub number_text : Bool → List ℕ → List ℕ
number_text is_number octets =
    if is_number && (nat_le 1 (length octets) && nat_le (length octets) 8) then decimal (little_number (length octets) octets)
    else octets_text octets

-- an attribute
unfoldable pub attribute_text : List ℕ → List ℕ
attribute_text octets = if length octets == 4 then codes "0x" ++ hex_of 8 (number_at 4 octets 0) else octets_text octets

-- AN ELEMENT OF AN IDN
unfoldable pub idn_text : SlaveSpec → ℕ → ℕ → ℕ → List ℕ → List ℕ
idn_text slave drive number elements octets =
    if elements == 2 || elements == 8 then text octets
    else if elements == 4 then attribute_text octets
    else if elements == 16 || elements == 32 || elements == 64 then number_text (has_number slave drive number (length octets)) octets
    else octets_text octets
