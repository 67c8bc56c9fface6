-- The frame of octets as a session sees it: a function of the octets and of the lengths of the mailboxes at each station.
use Rattle.std.specs.Prelude.{ℕ, ◌+◌, List, [], map, take, drop, Result, Ok, Err}
use Rattle.al_state.specs.of_datagrams.declared.frame.Frame.{Frame}
use Rattle.al_state.specs.of_datagrams.declared.frame.FrameFault.{FrameFault}
use Rattle.al_state.specs.of_datagrams.declared.frame.Part.{Part}
use Rattle.al_state.specs.of_datagrams.Datagram as Raw
use Rattle.al_state.specs.of_datagrams.Frame.{frame_read}
use Rattle.link_mails.specs.Body.{Body}
use Rattle.life_model.specs.of_segment_model.Slaves.{Datagram}
use Rattle.frame_view.specs.View.{Lens, head_seen, datagram_seen, station_of}

-- a datagram at its place
abbrev pub part_seen : (ℕ → Lens) → List ℕ → Part → Datagram Body
part_seen lens octets p = head_seen (lens (station_of p.head.command p.head.adp)) p.head (take p.head.len (drop (p.at + 10) octets))

-- those of a frame that was read
abbrev pub parts_seen : (ℕ → Lens) → List ℕ → Result Frame FrameFault → List (Datagram Body)
parts_seen lens octets (Ok frame) = map (part_seen lens octets) frame.parts.items
parts_seen lens octets (Err fault) = []

-- THE FRAME: octets that are no frame have no datagrams
abbrev pub seen : (ℕ → Lens) → List ℕ → List (Datagram Body)
seen lens octets = parts_seen lens octets (frame_read octets)

-- datagrams of the grammar
abbrev pub datagrams_seen : (ℕ → Lens) → List Raw.Datagram → List (Datagram Body)
datagrams_seen lens ds = map (datagram_seen lens) ds
