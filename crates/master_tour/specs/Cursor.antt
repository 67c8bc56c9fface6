-- A datagram of a frame of octets, by its number.
use Rattle.std.specs.Prelude.{◌≡◌, ℕ, ◌+◌, List, ◌∷◌, ◌++◌, length}
use Rattle.master_side.specs.of_datagrams.declared.frame.Part.{Part}
use Rattle.master_side.specs.of_datagrams.Datagram.{Datagram}
use Rattle.master_side.specs.of_datagrams.Frame.{IsFrame, text_of}

-- the part is that of the datagram with this number, from 0 on
pub record Stands (ds : List Datagram) (number : ℕ) (part : Part) : Type 0 where
  pub front : List Datagram
  pub datagram : Datagram
  pub behind : List Datagram
  pub split : ds ≡ front ++ datagram ∷ behind
  pub number_is : length front ≡ number
  pub place : part.at ≡ 16 + length (text_of front)
  pub head : part.head ≡ datagram.head

-- THE CURSOR stands at one of the frame's datagrams
abbrev pub IsAtOne : List ℕ → ℕ → Part → Type 0
IsAtOne octets number part = (ds : List Datagram) → IsFrame octets ds → Stands ds number part
