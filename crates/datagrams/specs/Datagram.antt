use Rattle.std.specs.Prelude.{◌≡◌, ℕ, ◌+◌, ◌*◌, ◌<◌, ◌^◌, ◌==◌, Bool, if◌then◌else◌, List, ◌∷◌, ◌++◌, length, take, drop, slice_index, nat_lt}
use Rattle.byteorder.specs.Endian.{little_bytes}
use Rattle.ec_fields.specs.Fields.{number_at, bits_of}
use Rattle.datagrams.specs.declared.head.Head.{Head}
use Rattle.datagrams.specs.Command.{number_of, command_of, IsNamed}

-- a datagram: its head, the three reserved bits of its length word, and its body
pub record Datagram : Type 0 where
  pub head : Head
  pub reserved : ℕ
  pub body : List ℕ

-- the word of the body's length: bits 11 to 13 are reserved, bit 14 is circulating, bit 15 is more
abbrev pub length_word : ℕ → Head → ℕ
length_word reserved h =
    h.len + 2048 * reserved + (if h.circulating then 16384 else 0) + (if h.more then 32768 else 0)

-- the ten octets before the body: command, index, ADP, ADO, length word, interrupt
abbrev pub front_text : ℕ → Head → List ℕ
front_text reserved h =
    number_of h.command ∷ h.index ∷ (little_bytes 2 h.adp ++ (little_bytes 2 h.ado
    ++ (little_bytes 2 (length_word reserved h) ++ little_bytes 2 h.interrupt)))

-- the octets of a datagram: its front, its body and its working counter
abbrev pub datagram_text : Datagram → List ℕ
datagram_text d = front_text d.reserved d.head ++ (d.body ++ little_bytes 2 d.head.counter)

-- how many octets a datagram has
abbrev pub size_of : Datagram → ℕ
size_of d = 12 + length d.body

-- each field of a head fits its place
pub record IsInRange (h : Head) : Type 0 where
  pub index : h.index < 2 ^ 8
  pub adp : h.adp < 2 ^ 16
  pub ado : h.ado < 2 ^ 16
  pub interrupt : h.interrupt < 2 ^ 16
  pub counter : h.counter < 2 ^ 16

-- each field fits its place, and the length is that of the body
pub record IsSized (d : Datagram) : Type 0 where
  pub head : IsInRange d.head
  pub reserved : d.reserved < 2 ^ 3
  pub len : d.head.len < 2 ^ 11
  pub body : length d.body ≡ d.head.len

-- a datagram that octets can spell
pub record IsDatagram (d : Datagram) : Type 0 where
  pub sized : IsSized d
  pub named : IsNamed d.head.command

-- the body's length that the datagram whose octets begin here says
abbrev pub body_length : List ℕ → ℕ
body_length octets = bits_of (number_at 2 octets 6) 0 11

-- whether fewer octets are left than the datagram has that begins here
abbrev pub is_cut : List ℕ → Bool
is_cut octets = nat_lt (length octets) (12 + body_length octets)

-- the head of the datagram whose octets begin here
abbrev pub head_read : List ℕ → Head
head_read octets = record {
  command = command_of (slice_index octets 0);
  index = slice_index octets 1;
  adp = number_at 2 octets 2;
  ado = number_at 2 octets 4;
  len = body_length octets;
  circulating = bits_of (number_at 2 octets 6) 14 1 == 1;
  more = bits_of (number_at 2 octets 6) 15 1 == 1;
  interrupt = number_at 2 octets 8;
  counter = number_at 2 octets (10 + body_length octets);
}

-- the datagram whose octets begin here
abbrev pub datagram_here : List ℕ → Datagram
datagram_here octets = record {
  head = head_read octets;
  reserved = bits_of (number_at 2 octets 6) 11 3;
  body = take (body_length octets) (drop 10 octets);
}
