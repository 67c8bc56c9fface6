-- A ring in which one slave is open while it meets a frame, and what it is for that slave: a ring of its own.
use Rattle.std.specs.Prelude.{◌≡◌, ℕ, ◌<◌, List, [], ◌∷◌, ◌++◌, length, ⊤}
use Rattle.state_model.specs.of_link_model.Segment.{RingFate}
use Rattle.state_model.specs.of_segment_model.Slaves.{Slave, Datagram, Ring, frame_after, all_back}
use Rattle.life_model.specs.Own.{AreSeen, IsOpen, AllApart}

-- the datagrams are as octets give them, at each slave
abbrev pub AllSeen : {V M : Type 0} → Ring V M → List (Datagram M) → Type 0
AllSeen [] ds = AreSeen ds
AllSeen (n ∷ ns) ds = AreSeen ds × AllSeen ns (frame_after n.0 n.1 ds)

-- ONE SLAVE IS OPEN while it meets this frame, and all others are apart from its station
pub record IsAlone {V M : Type 0} (station : ℕ) (before : Ring V M) (s : Slave V M) (behind : Ring V M) (ds : List (Datagram M)) : Type 0 where
  pub before_seen : AllSeen before ds
  pub before_apart : AllApart station before ds
  pub seen : AreSeen (all_back before ds)
  pub is_open : IsOpen station s (all_back before ds)
  pub behind_seen : AllSeen behind (frame_after station s (all_back before ds))
  pub behind_apart : AllApart station behind (frame_after station s (all_back before ds))

-- a frame of this fate reaches the slave at this place
abbrev pub Reaches : ℕ → RingFate → Type 0
Reaches place RingFate.Back = ⊤
Reaches place (RingFate.Lost after) = place < after

-- THE SLAVE OF A RING is that of a ring of its own
pub record Stands {V M : Type 0} (station : ℕ) (place : ℕ) (whole one : Ring V M) : Type 0 where
  pub before : Ring V M
  pub slave : Slave V M
  pub behind : Ring V M
  pub at : length before ≡ place
  pub whole_is : whole ≡ before ++ (station, slave) ∷ behind
  pub one_is : one ≡ (station, slave) ∷ []
