use Rattle.std.specs.Prelude.{◌≡◌, ℕ, zero, suc, ◌+◌, ◌*◌, ◌-◌, ◌<◌, ◌≤◌, ◌^◌, ◌==◌, Bool, true, false, not, ◌&&◌, nat_lt, if◌then◌else◌, List, [], ◌∷◌, ◌++◌, length, take, drop, replicate, slice_index, Result, Ok, Err, Option, None, Some}
use Rattle.byteorder.specs.Endian.{little_bytes}
use Rattle.ec_fields.specs.Fields.{number_at, number_put, bits_of, bits_put}
use Rattle.datagrams.specs.declared.frame.Frame.{Frame}
use Rattle.datagrams.specs.declared.frame.FrameFault.{FrameFault}
use Rattle.datagrams.specs.declared.frame.FrameFault.TheVariants.{Short, NotEtherCat, WrongType, LengthWord, DatagramCut, MoreButEnd}
use Rattle.datagrams.specs.declared.frame.Part.{Part}
use Rattle.datagrams.specs.declared.head.Head.{Head}
use Rattle.datagrams.specs.Datagram.{Datagram, IsDatagram, IsSized, datagram_text, size_of, is_cut, head_read}

-- the octets of datagrams, one behind the other
abbrev pub text_of : List Datagram → List ℕ
text_of [] = []
text_of (d ∷ ds) = datagram_text d ++ text_of ds

-- each datagram is so
abbrev pub Each : (Datagram → Type 0) → List Datagram → Type 0
Each P [] = Unit {0}
Each P (d ∷ ds) = P d × Each P ds

-- there is a datagram, and all but the last say "more"
abbrev pub MoreButLast : List Datagram → Type 0
MoreButLast [] = ⊥
MoreButLast (d ∷ []) = d.head.more ≡ false
MoreButLast (d ∷ e ∷ ds) = (d.head.more ≡ true) × MoreButLast (e ∷ ds)

-- each datagram with its place, where the first begins at `at`
abbrev pub parts_of : ℕ → List Datagram → List Part
parts_of at [] = []
parts_of at (d ∷ ds) = (record { at = at; head = d.head }) ∷ parts_of (at + size_of d) ds

-- the header behind the addresses: EtherType 0x88A4, then the word of length, reserved bit and type
abbrev pub header_text : ℕ → List ℕ
header_text word = 136 ∷ 164 ∷ little_bytes 2 word

-- octets are a frame of these datagrams: any addresses, a header whose length takes in the
-- datagrams and is there, the datagrams, and padding
pub record IsFrame (octets : List ℕ) (ds : List Datagram) : Type 0 where
  pub addresses : List ℕ
  pub reserved : ℕ
  pub size : ℕ
  pub padding : List ℕ
  pub text : octets ≡ addresses ++ (header_text (size + 2048 * reserved + 4096) ++ (text_of ds ++ padding))
  pub twelve : length addresses ≡ 12
  pub one_bit : reserved < 2
  pub eleven_bits : size < 2 ^ 11
  pub takes_in : length (text_of ds) ≤ size
  pub is_there : size ≤ length (text_of ds) + length padding
  pub datagrams : Each IsDatagram ds
  pub chain : MoreButLast ds

-- parts in front of what a reader finds behind them
abbrev pub with_parts : List Part → Result (List Part) FrameFault → Result (List Part) FrameFault
with_parts front (Ok parts) = Ok (front ++ parts)
with_parts front (Err fault) = Err fault

-- the part at a place whose octets begin here
abbrev pub part_at : ℕ → List ℕ → Part
part_at at octets = record { at = at; head = head_read octets }

-- the part whose octets begin at place `start` behind the header, None where fewer octets are left
abbrev pub part_from : List ℕ → ℕ → Option Part
part_from octets start =
    if is_cut (drop start octets) then None else Some (part_at (16 + start) (drop start octets))

-- what a reader finds from place `at` on in the octets that are left, of which there are at most `most`
abbrev pub parts_within : ℕ → ℕ → List ℕ → Result (List Part) FrameFault
parts_within zero at octets = Err (DatagramCut at)
parts_within (suc most) at octets =
    if is_cut octets then Err (DatagramCut at)
    else (let h = head_read octets in
    let behind = drop (12 + h.len) octets in
    if not h.more then Ok (part_at at octets ∷ [])
    else if length behind == 0 then Err MoreButEnd
    else with_parts (part_at at octets ∷ []) (parts_within most (at + (12 + h.len)) behind))

-- the same as a frame
abbrev pub frame_of : Result (List Part) FrameFault → Result Frame FrameFault
frame_of (Ok parts) = Ok (record { parts = record { items = parts } })
frame_of (Err fault) = Err fault

-- a fault with which something does not read, none where it reads
abbrev pub FaultIs : Option FrameFault → Result Frame FrameFault → Type 0
FaultIs (Some fault) r = r ≡ Err fault
FaultIs None r = (frame : Frame) × (r ≡ Ok frame)

-- what octets read as: the frame's parts, or the first fault
abbrev pub frame_read : List ℕ → Result Frame FrameFault
frame_read octets =
    if nat_lt (length octets) 16 then Err Short
    else if not (slice_index octets 12 == 136 && slice_index octets 13 == 164) then Err NotEtherCat
    else (let word = number_at 2 octets 14 in
    let size = bits_of word 0 11 in
    if not (bits_of word 12 4 == 1) then Err WrongType
    else if nat_lt (length octets - 16) size then Err LengthWord
    else frame_of (parts_within size 16 (take size (drop 16 octets))))

-- a datagram that says "more", or doesn't
abbrev pub saying : Bool → Datagram → Datagram
saying more d = record d { head = record d.head { more = more } }

-- the datagrams with "more" in all but the last
abbrev pub chained : List Datagram → List Datagram
chained [] = []
chained (d ∷ []) = saying false d ∷ []
chained (d ∷ e ∷ ds) = saying true d ∷ chained (e ∷ ds)

-- the addresses that the master writes
abbrev pub master_addresses : List ℕ
master_addresses = 255 ∷ 255 ∷ 255 ∷ 255 ∷ 255 ∷ 255 ∷ 2 ∷ 0 ∷ 0 ∷ 0 ∷ 0 ∷ 1 ∷ []

-- the place of the last datagram, 0 where there is none
abbrev pub last_place : ℕ → List Datagram → ℕ
last_place at [] = 0
last_place at (d ∷ []) = at
last_place at (d ∷ e ∷ ds) = last_place (at + size_of d) (e ∷ ds)

-- a datagram that is added: its own "more" is clear
abbrev pub datagram_of : Head → List ℕ → Datagram
datagram_of h body = record { head = record h { more = false }; reserved = 0; body = body }

-- a frame that was begun, and these datagrams were added: its length word has the place of the last
pub record IsBegun (octets : List ℕ) (ds : List Datagram) : Type 0 where
  pub text : octets ≡ master_addresses ++ (header_text (last_place 16 ds) ++ text_of (chained ds))
  pub sized : Each IsSized ds
  pub fits : length octets ≤ 1514

-- the one spelling of datagrams as a frame that the master sends: zeros up to 60 octets behind them
abbrev pub frame_text : List Datagram → List ℕ
frame_text ds =
    master_addresses ++ (header_text (length (text_of ds) + 4096)
    ++ (text_of ds ++ replicate (60 - (16 + length (text_of ds))) 0))

-- a part of a frame that reads
pub record IsPart (octets : List ℕ) (part : Part) : Type 0 where
  pub front : List Datagram
  pub datagram : Datagram
  pub behind : List Datagram
  pub frame : IsFrame octets (front ++ datagram ∷ behind)
  pub place : part.at ≡ 16 + length (text_of front)
  pub head : part.head ≡ datagram.head

-- a datagram with another ADP and counter
abbrev pub reset : Datagram → ℕ → ℕ → Datagram
reset d adp counter = record d { head = record d.head { adp = adp; counter = counter } }

-- the octets with ADP and counter of a part written
abbrev pub octets_set : List ℕ → Part → ℕ → ℕ → List ℕ
octets_set octets part adp counter =
    number_put 2 (number_put 2 octets (part.at + 2) adp) (part.at + (10 + part.head.len)) counter

-- the octets with "more" set in the datagram whose place the length word has
abbrev pub marked : List ℕ → List ℕ
marked octets =
    let last = number_at 2 octets 14 in
    if last == 0 then octets
    else number_put 2 octets (last + 6) (bits_put (number_at 2 octets (last + 6)) 15 1 1)

-- the octets with their length word written, and zeros up to 60 octets
abbrev pub closed : List ℕ → List ℕ
closed octets =
    number_put 2 octets 14 (4096 + (length octets - 16)) ++ replicate (60 - length octets) 0
