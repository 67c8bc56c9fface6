use Rattle.std.specs.Prelude.{◌≡◌, ℕ, ◌⊎◌, Bool, true, false, List, [], ◌∷◌, ◌++◌, take, Option, Some, None, Result, Ok, Err}
use Rattle.ec_outside.specs.declared.port.Heard.{Heard}
use Rattle.ec_outside.specs.declared.port.Heard.TheVariants.{From, Quiet, Ended}
use Rattle.ec_outside.specs.declared.port.Peer.{Peer}
use Rattle.ec_outside.specs.declared.port.PortErr.{PortErr}
use Rattle.ec_outside.specs.declared.port.PortErr.TheVariants.{Failed, NoMemory}
use Rattle.ec_outside.specs.declared.port.PortItem.{PortItem}
use Rattle.ec_outside.specs.declared.port.PortItem.TheVariants.{Gram, Pause}
use Rattle.ec_outside.specs.declared.port.SentGram.{SentGram}

-- a datagram that was heard
pub record HeardGram : Type 0 where
  pub from : Peer
  pub bytes : List ℕ

-- whether the port answered that no datagram will come any more
abbrev pub has_ended : Result Heard PortErr → Bool
has_ended (Ok Ended) = true
has_ended _ = false

-- what a call that listens adds to the datagrams heard, where they are told
abbrev pub Hears : Option (List HeardGram) → Option (List HeardGram) → List ℕ → Result Heard PortErr → Type 0
Hears None new bytes result = Unit {0}
Hears (Some old) new bytes (Ok (From peer)) = new ≡ Some (old ++ record { from = peer; bytes = bytes } ∷ [])
Hears (Some old) new bytes _ = new ≡ Some old

-- a buffer is empty where no datagram was heard
abbrev pub IsBlank : Result Heard PortErr → List ℕ → Type 0
IsBlank (Ok (From peer)) bytes = Unit {0}
IsBlank _ bytes = bytes ≡ []

-- what a call of a port that never ends answers; only one that doesn't wait answers that it is quiet
abbrev pub IsListened : Bool → Heard → List ℕ → Type 0
IsListened waits (From peer) bytes = Unit {0}
IsListened waits Quiet bytes = (waits ≡ false) × (bytes ≡ [])
IsListened waits Ended bytes = ⊥

-- what a call that sends adds to the datagrams sent, where they are told; after a fault it was sent or not
abbrev pub Sends : Option (List SentGram) → Option (List SentGram) → Peer → List ℕ → Result (Unit {0}) PortErr → Type 0
Sends None new to bytes result = Unit {0}
Sends (Some old) new to bytes (Ok done) = new ≡ Some (old ++ record { to = to; bytes = bytes } ∷ [])
Sends (Some old) new to bytes (Err Failed) = (new ≡ Some old) ⊎ (new ≡ Some (old ++ record { to = to; bytes = bytes } ∷ []))
Sends (Some old) new to bytes (Err NoMemory) = new ≡ Some old

-- the datagrams among the items of a port in memory, each as far as it is heard
abbrev pub grams_of : List PortItem → List HeardGram
grams_of [] = []
grams_of (Gram from bytes ∷ items) = (record { from = from; bytes = take 2048 bytes }) ∷ grams_of items
grams_of (Pause ∷ items) = grams_of items

-- the items from the first datagram on
abbrev pub from_gram : List PortItem → List PortItem
from_gram [] = []
from_gram (Gram from bytes ∷ items) = Gram from bytes ∷ items
from_gram (Pause ∷ items) = from_gram items

-- what the first of the items left is heard as
abbrev pub heard_first : List PortItem → Heard
heard_first [] = Ended
heard_first (Gram from bytes ∷ items) = From from
heard_first (Pause ∷ items) = Quiet

-- the octets that are heard of it
abbrev pub bytes_first : List PortItem → List ℕ
bytes_first [] = []
bytes_first (Gram from bytes ∷ items) = take 2048 bytes
bytes_first (Pause ∷ items) = []
