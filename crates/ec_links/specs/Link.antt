use Rattle.std.specs.Prelude.{◌≡◌, ℕ, ◌≤◌, Bool, true, false, not, if◌then◌else◌, nat_lt, List, [], ◌∷◌, ◌++◌, length, take, drop, Option, Result, Ok, Err}
use Rattle.std.specs.Option.{option_map}
use Rattle.ec_outside.specs.Calls.{one_more}
use Rattle.ec_links.specs.declared.link.Asked.{Asked}
use Rattle.ec_links.specs.declared.link.LinkErr.{LinkErr}
use Rattle.ec_links.specs.declared.link.LinkErr.TheVariants.{Failed, NoMemory}
use Rattle.ec_links.specs.declared.link.LinkItem.{LinkItem}
use Rattle.ec_links.specs.declared.link.LinkItem.TheVariants as items
use Rattle.ec_links.specs.declared.link.Piece.{Piece}
use Rattle.ec_links.specs.declared.link.Piece.TheVariants as pieces

-- octets behind others, where those are told
abbrev pub told_more : List ℕ → Option (List ℕ) → Option (List ℕ)
told_more octets told = option_map (λ earlier. earlier ++ octets) told

-- whether the link answered that no octet will come any more
abbrev pub has_ended : Result Piece LinkErr → Bool
has_ended (Ok pieces.Ended) = true
has_ended _ = false

-- whether the link answered that there is no octet for now
abbrev pub is_quiet : Result Piece LinkErr → Bool
is_quiet (Ok pieces.Quiet) = true
is_quiet _ = false

-- how the link was asked, behind one call more, where that is told
abbrev pub asked_more : Result Piece LinkErr → Option Asked → Option Asked
asked_more result told = option_map (λ asked. record { count = one_more asked.count; quiet = is_quiet result }) told

-- a piece of 1 to so many octets came, and stands behind what the buffer held
pub record GivesPiece (given given' : Option (List ℕ)) (into into' : List ℕ) (most : ℕ) : Type 0 where
  pub piece : List ℕ
  pub some : 1 ≤ length piece
  pub few : length piece ≤ most
  pub appended : into' ≡ into ++ piece
  pub told : given' ≡ told_more piece given

-- what a call that listens adds to the buffer and to the octets given, where they are told
abbrev pub Gives : Option (List ℕ) → Option (List ℕ) → List ℕ → List ℕ → ℕ → Result Piece LinkErr → Type 0
Gives given given' into into' most (Ok pieces.Bytes) = GivesPiece given given' into into' most
Gives given given' into into' most _ = (into' ≡ into) × (given' ≡ given)

-- a prefix of the octets was put
pub record PutsPrefix (sent sent' : Option (List ℕ)) (octets : List ℕ) : Type 0 where
  pub front : List ℕ
  pub behind : List ℕ
  pub cut : octets ≡ front ++ behind
  pub told : sent' ≡ told_more front sent

-- what a call that puts adds to the octets put, where they are told; after a fault a prefix was put
abbrev pub Puts : Option (List ℕ) → Option (List ℕ) → List ℕ → Result (Unit {0}) LinkErr → Type 0
Puts sent sent' octets (Ok done) = sent' ≡ told_more octets sent
Puts sent sent' octets (Err Failed) = PutsPrefix sent sent' octets
Puts sent sent' octets (Err NoMemory) = sent' ≡ sent

-- the octets of the first item
abbrev pub bytes_first : List LinkItem → List ℕ
bytes_first [] = []
bytes_first (items.Bytes bytes ∷ rest) = bytes
bytes_first (items.Pause ∷ rest) = []

-- the octets of all items, one behind the other
abbrev pub octets_of : List LinkItem → List ℕ
octets_of [] = []
octets_of (items.Bytes bytes ∷ rest) = bytes ++ octets_of rest
octets_of (items.Pause ∷ rest) = octets_of rest

-- the octets given, where so many items and so many octets of the next one were
abbrev pub given_at : ℕ → ℕ → List LinkItem → List ℕ
given_at at from list = octets_of (take at list) ++ take from (bytes_first (drop at list))

-- items without the first octets of the first of them
abbrev pub left_behind : ℕ → List LinkItem → List LinkItem
left_behind from [] = []
left_behind from (items.Bytes bytes ∷ rest) = items.Bytes (drop from bytes) ∷ rest
left_behind from (items.Pause ∷ rest) = items.Pause ∷ rest

-- the items that are left, where so many items and so many octets of the next one were given
abbrev pub left_at : ℕ → ℕ → List LinkItem → List LinkItem
left_at at from list = left_behind from (drop at list)

-- whether an item is given, and not passed over: it has octets, or is a pause at which nobody waits
abbrev pub is_given : Bool → LinkItem → Bool
is_given wait (items.Bytes []) = false
is_given wait (items.Bytes (byte ∷ bytes)) = true
is_given wait items.Pause = not wait

-- the items from the first octet on; where nobody waits, from the first octet or pause on
abbrev pub from_piece : Bool → List LinkItem → List LinkItem
from_piece wait [] = []
from_piece wait (items.Bytes [] ∷ rest) = from_piece wait rest
from_piece wait (items.Bytes (byte ∷ bytes) ∷ rest) = items.Bytes (byte ∷ bytes) ∷ rest
from_piece true (items.Pause ∷ rest) = from_piece true rest
from_piece false (items.Pause ∷ rest) = items.Pause ∷ rest

-- what the first of the items left is answered as
abbrev pub piece_first : List LinkItem → Piece
piece_first [] = pieces.Ended
piece_first (items.Bytes bytes ∷ rest) = pieces.Bytes
piece_first (items.Pause ∷ rest) = pieces.Quiet

-- the items left behind at most so many octets of the first, or behind a pause
abbrev pub behind_first : ℕ → List LinkItem → List LinkItem
behind_first most [] = []
behind_first most (items.Bytes bytes ∷ rest) = if nat_lt most (length bytes) then items.Bytes (drop most bytes) ∷ rest else rest
behind_first most (items.Pause ∷ rest) = rest
