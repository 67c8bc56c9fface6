-- The exchanges of a capture: frames that were sent, with what returned of each.
use Rattle.std.specs.Prelude.{ℕ, ◌+◌, ◌==◌, ◌&&◌, Bool, true, false, is_some, if◌then◌else◌, List, [], ◌∷◌, slice_get, Option, Some, None, option_map, Result, Ok, Err}
use Rattle.capture_view.specs.of_datagrams.declared.head.Head.{Head}
use Rattle.capture_view.specs.of_datagrams.declared.frame.Frame.{Frame}
use Rattle.capture_view.specs.of_datagrams.declared.frame.FrameFault.{FrameFault}
use Rattle.capture_view.specs.of_datagrams.declared.frame.Part.{Part}
use Rattle.capture_view.specs.of_datagrams.Frame.{frame_read}
use Rattle.capture_view.specs.of_pcap_frames.declared.capture.PacketAt.{PacketAt}
use Rattle.capture_view.specs.View.{octets_of, body_of}

-- what returned of a datagram: its working counter and its body
pub record Return : Type 0 where
  pub counter : ℕ
  pub body : List ℕ

-- a datagram that was sent, and what returned of it, if it did
pub record Sent : Type 0 where
  pub head : Head
  pub body : List ℕ
  pub back : Option Return

-- a frame that reads: its octets and its datagrams
pub record Found : Type 0 where
  pub octets : List ℕ
  pub parts : List Part

-- as many datagrams of the same lengths
abbrev pub same_lengths : List Part → List Part → Bool
same_lengths [] [] = true
same_lengths (p ∷ ps) (q ∷ qs) = p.head.len == q.head.len && same_lengths ps qs
same_lengths _ _ = false

-- the first datagrams have the same index
abbrev pub same_index : List Part → List Part → Bool
same_index (p ∷ ps) (q ∷ qs) = p.head.index == q.head.index
same_index _ _ = false

-- these octets as the return of a frame with such datagrams, where they read as one
abbrev pub return_as : List Part → List ℕ → Result Frame FrameFault → Option Found
return_as sent octets (Err fault) = None
return_as sent octets (Ok frame) =
    if same_index sent frame.parts.items && same_lengths sent frame.parts.items then Some (record { octets = octets; parts = frame.parts.items }) else None

-- the return of what a packet reads as, where the octets behind it are that
abbrev pub returned : Result Frame FrameFault → List ℕ → Option Found
returned (Err fault) behind = None
returned (Ok frame) behind = return_as frame.parts.items behind (frame_read behind)

-- what stands in a return as this part
abbrev pub back_of : List ℕ → Part → Return
back_of octets part = record { counter = part.head.counter; body = body_of octets part }

-- what stands in a return at a place
abbrev pub back_at : Option Found → ℕ → Option Return
back_at None place = None
back_at (Some found) place = option_map (back_of found.octets) (slice_get found.parts place)

-- a datagram of a frame, by its part, with what stands at its place in the return
abbrev pub datagram_of : Option Found → List ℕ → ℕ → Part → Sent
datagram_of back octets place part = record { head = part.head; body = body_of octets part; back = back_at back place }

-- the datagrams of a frame, of which the first has this place
abbrev pub datagrams_of : Option Found → List ℕ → ℕ → List Part → List Sent
datagrams_of back octets place [] = []
datagrams_of back octets place (part ∷ parts) = datagram_of back octets place part ∷ datagrams_of back octets (place + 1) parts

-- the datagrams of what a packet reads as; none where it doesn't
abbrev pub datagrams_in : Option Found → List ℕ → Result Frame FrameFault → List Sent
datagrams_in back octets (Err fault) = []
datagrams_in back octets (Ok frame) = datagrams_of back octets 0 frame.parts.items

-- the octets of the first of these packets, none where there is none
abbrev pub next_octets : List ℕ → List PacketAt → List ℕ
next_octets file [] = []
next_octets file (packet ∷ packets) = octets_of file packet

-- a packet that was sent: its number, and its datagrams
pub record Exchange : Type 0 where
  pub packet : ℕ
  pub datagrams : List Sent

-- the exchange that a packet with these octets begins, before these octets
abbrev pub exchange_at : ℕ → List ℕ → List ℕ → Exchange
exchange_at number octets behind = record { packet = number; datagrams = datagrams_in (returned (frame_read octets) behind) octets (frame_read octets) }

-- whether the octets behind it are its return
abbrev pub uses : List ℕ → List ℕ → Bool
uses octets behind = is_some (returned (frame_read octets) behind)

-- THE EXCHANGES of packets, of which the first has this number and is left out where it was used as a return. A packet
-- that doesn't read has no datagram.
abbrev pub exchanges : List ℕ → Bool → ℕ → List PacketAt → List Exchange
exchanges file used number [] = []
exchanges file true number (packet ∷ packets) = exchanges file false (number + 1) packets
exchanges file false number (packet ∷ packets) =
    exchange_at number (octets_of file packet) (next_octets file packets)
    ∷ exchanges file (uses (octets_of file packet) (next_octets file packets)) (number + 1) packets
