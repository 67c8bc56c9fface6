-- A slave's own datagrams among those of a frame, and the slaves that leave them alone.
use Rattle.std.specs.Prelude.{◌≡◌, ℕ, ◌==◌, ◌&&◌, Bool, true, false, if◌then◌else◌, List, [], ◌∷◌, ⊤}
use Rattle.slave_node.specs.of_datagrams.Datagram as Raw
use Rattle.slave_node.specs.of_esc_registers.declared.registers.Registers as Esc
use Rattle.slave_node.specs.of_esc_registers.Access.{is_by_station}
use Rattle.slave_node.specs.Passing.{passed, registers_after, datagrams_after}
use Rattle.frame_view.specs.of_link_mails.Body.{Body}
use Rattle.slave_node.specs.of_mailbox_slave.Kept.{Kept}
use Rattle.frame_view.specs.of_segment_model.Slaves.{Serving, Datagram, slave_after, frame_after}
use Rattle.frame_view.specs.View.{Lens}
use Rattle.frame_view.specs.Seen.{datagrams_seen}
use Rattle.frames_seen.specs.Slaves.{slave_of, IsOpen}
use Rattle.frames_seen.specs.Spoken.{means}

-- it is addressed to this station
abbrev pub is_to : ℕ → Raw.Datagram → Bool
is_to station d = is_by_station d.head.command && d.head.adp == station

-- the datagrams that are addressed to it
abbrev pub own_of : ℕ → List Raw.Datagram → List Raw.Datagram
own_of station [] = []
own_of station (d ∷ ds) = if is_to station d then d ∷ own_of station ds else own_of station ds

-- what a session sees of them
abbrev pub own_seen : (ℕ → Lens) → ℕ → List Raw.Datagram → List (Datagram Body)
own_seen lens station ds = datagrams_seen lens (own_of station ds)

-- A SLAVE IS APART from a station while it meets this frame, in whatever state it is: no datagram to that station means it
abbrev pub IsApart : ℕ → Esc.Registers → List Raw.Datagram → Type 0
IsApart station r [] = ⊤
IsApart station r (d ∷ ds) = (is_to station d ≡ true → means r.station d.head ≡ false) × IsApart station (passed r d).registers ds

-- A SLAVE IS ALONE ADDRESSED while it meets this frame: what isn't addressed to its station doesn't mean it
abbrev pub IsAlone : ℕ → Esc.Registers → List Raw.Datagram → Type 0
IsAlone station r [] = ⊤
IsAlone station r (d ∷ ds) = (is_to station d ≡ false → means r.station d.head ≡ false) × IsAlone station (passed r d).registers ds

-- an open slave by its own datagrams: they behind it, it behind them, and that it stays open under its station
pub record IsOwnMet {V : Type 0} (lens : ℕ → Lens) (r : Esc.Registers) (k : Kept) (v : Serving V Body) (ds : List Raw.Datagram) : Type 0 where
  pub frame : own_seen lens r.station (datagrams_after r ds) ≡ frame_after r.station (slave_of k r v) (own_seen lens r.station ds)
  pub slave : slave_of k (registers_after r ds) v ≡ slave_after r.station (slave_of k r v) (own_seen lens r.station ds)
  pub stays : IsOpen lens (registers_after r ds)
  pub station : (registers_after r ds).station ≡ r.station

-- NOTHING OF A FRAME MEANS IT
abbrev pub NoneMeant : Esc.Registers → List Raw.Datagram → Type 0
NoneMeant r [] = ⊤
NoneMeant r (d ∷ ds) = (means r.station d.head ≡ false) × NoneMeant (passed r d).registers ds
