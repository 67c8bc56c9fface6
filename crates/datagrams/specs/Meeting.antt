-- Datagrams that pass something in their place in a frame.
use Rattle.std.specs.Prelude.{◌≡◌, ℕ, ◌+◌, List, ◌++◌, length, take, drop}
use Rattle.datagrams.specs.declared.frame.Part.{Part}
use Rattle.datagrams.specs.declared.head.Head.{Head}
use Rattle.datagrams.specs.Datagram.{Datagram}

-- what was passed, as it is behind a datagram, and head and body of the datagram then
pub record Met (S : Type 0) : Type 0 where
  pub this : S
  pub head : Head
  pub body : List ℕ

-- the datagram behind what it passed
abbrev pub met_datagram : {S : Type 0} → Datagram → Met S → Datagram
met_datagram d m = record d { head = m.head; body = m.body }

-- a part with another head
abbrev pub part_with_head : Part → Head → Part
part_with_head part head = record { at = part.at; head = head }

-- of a head ADP and counter alone have changed
abbrev pub IsMoved : Head → Head → Type 0
IsMoved old new = new ≡ record old { adp = new.adp; counter = new.counter }

-- octets with these in the place of as many, from here on
abbrev pub replaced : List ℕ → ℕ → List ℕ → List ℕ
replaced octets from body = take from octets ++ (body ++ drop (from + length body) octets)
