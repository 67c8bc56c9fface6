-- Emergencies in words (CiA 301; ETG.1000.6, section 5.6.4).
use Rattle.std.specs.Prelude.{ℕ, zero, suc, ◌*◌, ◌/◌, ◌%◌, ◌^◌, ◌==◌, nat_lt, Bool, List, [], ◌∷◌, ◌++◌, length, drop, slice_index, codes, if◌then◌else◌}
use Rattle.ec_fields.specs.Fields.{number_at}
use Rattle.value_texts.specs.of_reply_text.Reply.{hex_of}
use Rattle.value_texts.specs.Texts.{octets_text}
use Rattle.code_texts.specs.Meaning.{class}

-- the class of a high octet, empty where it has none
unfoldable pub class_at : ℕ → List ℕ
class_at octet = class (hex_of 2 octet)

-- the class of a code by its high octet, or else by that one's high digit
unfoldable pub class_of : ℕ → List ℕ
class_of octet =
    if length (class_at octet) == 0 then
    (if length (class_at (octet / 16 * 16)) == 0 then codes "unknown class" else class_at (octet / 16 * 16))
    else class_at octet

-- the error register has a bit
abbrev pub has_bit : ℕ → ℕ → Bool
has_bit register bit = register / 2 ^ bit % 2 == 1

-- the word of a bit
abbrev pub bit_word : ℕ → List ℕ
bit_word bit =
    if bit == 0 then codes "generic"
    else if bit == 1 then codes "current"
    else if bit == 2 then codes "voltage"
    else if bit == 3 then codes "temperature"
    else if bit == 4 then codes "communication"
    else if bit == 5 then codes "device profile"
    else if bit == 6 then codes "reserved"
    else codes "manufacturer"

-- a bit of the error register with a comma ahead, where it is set
unfoldable pub bit_item : ℕ → ℕ → List ℕ
bit_item register bit = if has_bit register bit then codes ", " ++ bit_word bit else []

-- those below a bit
unfoldable pub bits_below : ℕ → ℕ → List ℕ
bits_below register zero = []
bits_below register (suc bit) = bits_below register bit ++ bit_item register bit

-- the error register
unfoldable pub register_text : ℕ → List ℕ
register_text register = if register == 0 then codes "clear" else drop 2 (bits_below register 8)

-- the code
unfoldable pub code_text : ℕ → List ℕ
code_text code = codes "emergency " ++ (hex_of 4 code ++ codes ": ")

-- the octet of the error register
unfoldable pub number_text : ℕ → List ℕ
number_text register = hex_of 2 register ++ codes ": "

-- the code with its class, and the error register
unfoldable pub head_text : ℕ → ℕ → List ℕ
head_text code register = code_text code ++ (class_of (code / 256) ++ (codes "; error register " ++ (number_text register ++ register_text register)))

-- an emergency: code, error register, and the device's own octets
unfoldable pub whole_text : List ℕ → List ℕ
whole_text octets = head_text (number_at 2 octets 0) (slice_index octets 2) ++ (codes "; " ++ octets_text (drop 3 octets))

-- AN EMERGENCY by its class and its error register, or octets that are too few
unfoldable pub emergency_text : List ℕ → List ℕ
emergency_text octets = if nat_lt (length octets) 8 then octets_text octets else whole_text octets
