use Rattle.std.specs.Prelude.{◌≡◌, ℕ, ◌+◌, ◌*◌, ◌<◌, ◌^◌, Bool, true, not, ◌&&◌, ◌||◌, ◌==◌, nat_lt, nat_le, if◌then◌else◌, List, ◌++◌, length, drop, Result, Ok, Err}
use Rattle.byteorder.specs.Endian.{little_bytes}
use Rattle.ec_fields.specs.Fields.{number_at, bits_of}
use Rattle.soe_codec.specs.declared.message.Soe.{Soe}
use Rattle.soe_codec.specs.declared.message.SoeFault.{SoeFault}
use Rattle.soe_codec.specs.declared.message.SoeFault.TheVariants.{Short, Opcode, Incomplete}

-- the opcodes: 1 read, 2 its answer, 3 write, 4 its answer
abbrev pub is_opcode : ℕ → Bool
is_opcode n = nat_le 1 n && nat_le n 4

-- only a read answer and a write come in fragments
abbrev pub has_fragments : ℕ → Bool
has_fragments opcode = opcode == 2 || opcode == 3

-- what a word says of a message: opcode in bits 0 to 2, incomplete in bit 3, error in bit 4, drive in bits 5 to 7, element flags in bits 8 to 15
pub record Says (word : ℕ) (s : Soe) : Type 0 where
  pub opcode : bits_of word 0 3 ≡ s.opcode
  pub incomplete : (bits_of word 3 1 == 1) ≡ s.incomplete
  pub error : (bits_of word 4 1 == 1) ≡ s.error
  pub drive : bits_of word 5 3 ≡ s.drive
  pub elements : bits_of word 8 8 ≡ s.elements

-- a message with one of the opcodes, and in fragments only where its opcode has them
pub record IsKind (s : Soe) : Type 0 where
  pub opcode : is_opcode s.opcode ≡ true
  pub fragments : s.incomplete ≡ true → has_fragments s.opcode ≡ true

-- the SoE grammar: a word, the IDN or the fragments that follow, and the octets behind them
pub record IsSoe (body : List ℕ) (s : Soe) : Type 0 where
  pub word : ℕ
  pub text : body ≡ little_bytes 2 word ++ (little_bytes 2 s.field ++ s.bytes.items)
  pub word_fits : word < 2 ^ 16
  pub field_fits : s.field < 2 ^ 16
  pub says : Says word s
  pub kind : IsKind s

-- the message that a word, a field and the octets behind them spell, or its fault
abbrev pub message_in : ℕ → ℕ → List ℕ → Result Soe SoeFault
message_in word field rest =
    if not (is_opcode (bits_of word 0 3)) then Err Opcode
    else if bits_of word 3 1 == 1 && not (has_fragments (bits_of word 0 3)) then Err Incomplete
    else Ok (record {
      opcode = bits_of word 0 3;
      incomplete = bits_of word 3 1 == 1;
      error = bits_of word 4 1 == 1;
      drive = bits_of word 5 3;
      elements = bits_of word 8 8;
      field = field;
      bytes = record { items = rest };
    })

-- what a body reads as
abbrev pub soe_read : List ℕ → Result Soe SoeFault
soe_read body =
    if nat_lt (length body) 4 then Err Short else message_in (number_at 2 body 0) (number_at 2 body 2) (drop 4 body)

-- the word that is written
abbrev pub word_of : Soe → ℕ
word_of s = s.opcode + (if s.incomplete then 8 else 0) + (if s.error then 16 else 0) + 32 * s.drive + 256 * s.elements

-- the one spelling of a message
abbrev pub soe_text : Soe → List ℕ
soe_text s = little_bytes 2 (word_of s) ++ (little_bytes 2 s.field ++ s.bytes.items)

-- a message that has a spelling: its opcode is one, and its drive fits three bits
pub record IsSpellable (s : Soe) : Type 0 where
  pub kind : IsKind s
  pub drive : s.drive < 2 ^ 3
