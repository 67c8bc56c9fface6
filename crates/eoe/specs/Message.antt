use Rattle.std.specs.Prelude.{◌≡◌, ℕ, ◌+◌, ◌*◌, ◌%◌, ◌<◌, ◌^◌, Bool, true, false, not, ◌&&◌, ◌==◌, nat_lt, if◌then◌else◌, List, [], ◌++◌, length, drop, Result, Ok, Err}
use Rattle.byteorder.specs.Endian.{little_bytes}
use Rattle.ec_fields.specs.Fields.{number_at, bits_of}
use Rattle.eoe.specs.declared.message.Eoe.{Eoe}
use Rattle.eoe.specs.declared.message.Eoe.TheVariants.{Fragment as Part, SetIp, SetIpAnswer, GetIp, GetIpAnswer}
use Rattle.eoe.specs.declared.message.EoeFault.{EoeFault}
use Rattle.eoe.specs.declared.message.EoeFault.TheVariants.{Short, WrongType, Offset}
use Rattle.eoe.specs.declared.message.Fragment.{Fragment}

-- a fragment other than the last has whole blocks of 32 octets
abbrev pub IsWhole : Bool → ℕ → Type 0
IsWhole true n = Unit {0}
IsWhole false n = n % 32 ≡ 0

-- what the two words and the octets behind them say of a fragment: last in bit 8 and time appended in
-- bit 9 of the first, number in bits 0 to 5, offset in bits 6 to 11 and frame number in bits 12 to 15 of the second
pub record SaysFragment (first second : ℕ) (rest : List ℕ) (f : Fragment) : Type 0 where
  pub last : (bits_of first 8 1 == 1) ≡ f.last
  pub stamped : (bits_of first 9 1 == 1) ≡ f.stamped
  pub number : bits_of second 0 6 ≡ f.number
  pub offset : bits_of second 6 6 ≡ f.offset
  pub frame : bits_of second 12 4 ≡ f.frame
  pub octets : rest ≡ f.bytes.items
  pub whole : IsWhole f.last (length rest)

-- what they say of a message: the type is in bits 0 to 3 of the first word, the result of an answer is the second
abbrev pub Says : ℕ → ℕ → List ℕ → Eoe → Type 0
Says first second rest (Part f) = (bits_of first 0 4 ≡ 0) × SaysFragment first second rest f
Says first second rest (SetIp block) = (bits_of first 0 4 ≡ 2) × (rest ≡ block.items)
Says first second rest (SetIpAnswer result_code) = (bits_of first 0 4 ≡ 3) × (second ≡ result_code)
Says first second rest GetIp = bits_of first 0 4 ≡ 6
Says first second rest (GetIpAnswer result_code block) = (bits_of first 0 4 ≡ 7) × (second ≡ result_code) × (rest ≡ block.items)

-- the EoE grammar: two words, and the octets behind them
pub record IsEoe (body : List ℕ) (eoe : Eoe) : Type 0 where
  pub first : ℕ
  pub second : ℕ
  pub rest : List ℕ
  pub text : body ≡ little_bytes 2 first ++ (little_bytes 2 second ++ rest)
  pub first_fits : first < 2 ^ 16
  pub second_fits : second < 2 ^ 16
  pub says : Says first second rest eoe

-- the fragment that two words and the octets behind them spell
abbrev pub fragment_in : ℕ → ℕ → List ℕ → Fragment
fragment_in first second rest = record {
  last = bits_of first 8 1 == 1;
  stamped = bits_of first 9 1 == 1;
  number = bits_of second 0 6;
  offset = bits_of second 6 6;
  frame = bits_of second 12 4;
  bytes = record { items = rest };
}

-- the message that they spell, or its fault
abbrev pub message_in : ℕ → ℕ → List ℕ → Result Eoe EoeFault
message_in first second rest =
    if bits_of first 0 4 == 0 then
    (if not (bits_of first 8 1 == 1) && not (length rest % 32 == 0) then Err Offset
    else Ok (Part (fragment_in first second rest)))
    else if bits_of first 0 4 == 2 then Ok (SetIp (record { items = rest }))
    else if bits_of first 0 4 == 3 then Ok (SetIpAnswer second)
    else if bits_of first 0 4 == 6 then Ok GetIp
    else if bits_of first 0 4 == 7 then Ok (GetIpAnswer second (record { items = rest }))
    else Err WrongType

-- what a body reads as
abbrev pub eoe_read : List ℕ → Result Eoe EoeFault
eoe_read body =
    if nat_lt (length body) 4 then Err Short else message_in (number_at 2 body 0) (number_at 2 body 2) (drop 4 body)

-- the first word that is written: address messages have the last bit set
abbrev pub first_of : Eoe → ℕ
first_of (Part f) = (if f.last then 256 else 0) + (if f.stamped then 512 else 0)
first_of (SetIp block) = 258
first_of (SetIpAnswer result_code) = 259
first_of GetIp = 262
first_of (GetIpAnswer result_code block) = 263

-- the second word that is written
abbrev pub second_of : Eoe → ℕ
second_of (Part f) = f.number + 64 * f.offset + 4096 * f.frame
second_of (SetIp block) = 0
second_of (SetIpAnswer result_code) = result_code
second_of GetIp = 0
second_of (GetIpAnswer result_code block) = result_code

-- the octets behind the two words
abbrev pub octets_of : Eoe → List ℕ
octets_of (Part f) = f.bytes.items
octets_of (SetIp block) = block.items
octets_of (SetIpAnswer result_code) = []
octets_of GetIp = []
octets_of (GetIpAnswer result_code block) = block.items

-- the one spelling of a message
abbrev pub eoe_text : Eoe → List ℕ
eoe_text eoe = little_bytes 2 (first_of eoe) ++ (little_bytes 2 (second_of eoe) ++ octets_of eoe)

-- a fragment whose numbers fit their bits, and that has whole blocks unless it is the last
pub record IsFragment (f : Fragment) : Type 0 where
  pub number : f.number < 2 ^ 6
  pub offset : f.offset < 2 ^ 6
  pub frame : f.frame < 2 ^ 4
  pub whole : IsWhole f.last (length f.bytes.items)

-- a message that has a spelling
abbrev pub IsSpellable : Eoe → Type 0
IsSpellable (Part f) = IsFragment f
IsSpellable _ = Unit {0}
