-- WHAT A FRAME OF THE MASTER HAS FOR A SLAVE, by how the master stands to it.
use Rattle.std.specs.Prelude.{◌≡◌, ◌⊎◌, ℕ, ◌-◌, ◌%◌, ◌<◌, ◌==◌, Bool, true, false, List, [], ◌∷◌, ◌++◌, length, ⊤}
use Rattle.al_state.specs.of_datagrams.declared.command.Command.TheVariants.{Aprd, Apwr, Fprd, Fpwr}
use Rattle.al_state.specs.of_datagrams.Datagram as Raw
use Rattle.frame_view.specs.View.{Lens}
use Rattle.life_model.specs.Lives.{Spot, Stand}
use Rattle.frame_view.specs.Openings.{IsOpeningGram}

-- a datagram to a station
pub record IsByStation (station : ℕ) (d : Raw.Datagram) : Type 0 where
  pub command : (d.head.command ≡ Fprd) ⊎ (d.head.command ≡ Fpwr)
  pub adp : d.head.adp ≡ station

-- or to a place in the ring, as no slave has passed it
pub record IsByPlace (place : ℕ) (d : Raw.Datagram) : Type 0 where
  pub command : (d.head.command ≡ Aprd) ⊎ (d.head.command ≡ Apwr)
  pub adp : d.head.adp ≡ (65536 - place) % 65536

-- it is another slave's
pub data IsNotFor (spot : Spot) (d : Raw.Datagram) : Type 0 where
  station : (other : ℕ) → IsByStation other d → (other == spot.station) ≡ false → (0 == other) ≡ false → IsNotFor spot d
  place : (other : ℕ) → IsByPlace other d → (other == spot.place) ≡ false → other < 16 → IsNotFor spot d

-- each of these is
abbrev pub AllNotFor : Spot → List Raw.Datagram → Type 0
AllNotFor spot [] = ⊤
AllNotFor spot (d ∷ ds) = IsNotFor spot d × AllNotFor spot ds

-- THE FRAME HAS JUST ONE DATAGRAM FOR THE SLAVE, at this place
pub record HasOne (spot : Spot) (at : ℕ) (d : Raw.Datagram) (ds : List Raw.Datagram) : Type 0 where
  pub front : List Raw.Datagram
  pub behind : List Raw.Datagram
  pub split : ds ≡ front ++ d ∷ behind
  pub place : length front ≡ at
  pub before : AllNotFor spot front
  pub after : AllNotFor spot behind

-- the repeat request, enable kept
abbrev pub IsRequest : List ℕ → Type 0
IsRequest octets = (octets ≡ 1 ∷ []) ⊎ (octets ≡ 3 ∷ [])

-- what is written to a slave that is open: AL control, mailbox 0, the repeat request
abbrev pub IsWritten : ℕ → List ℕ → Type 0
IsWritten ado octets = (ado ≡ 288) ⊎ ((ado ≡ 4096) ⊎ ((ado ≡ 2062) × IsRequest octets))

-- A DATAGRAM TO A SLAVE THAT IS OPEN, as it is sent: by its station
pub record IsOpenGram (station : ℕ) (d : Raw.Datagram) : Type 0 where
  pub counter : d.head.counter ≡ 0
  pub to : IsByStation station d
  pub writes : d.head.command ≡ Fpwr → IsWritten d.head.ado d.body

-- by how the master stands to it
abbrev pub GramFor : (ℕ → Lens) → Spot → Stand → Raw.Datagram → Type 0
GramFor lens spot (Stand.Opens o) d = IsOpeningGram lens spot o d
GramFor lens spot Stand.Open d = IsOpenGram spot.station d
GramFor lens spot Stand.Gone d = ⊥

-- the slave's share of a frame: whether it has a datagram for it, and the place of that
pub record Share : Type 0 where
  pub under : Bool
  pub at : ℕ

-- THE FRAME FOR A SLAVE: nothing, or one datagram
pub data FrameFor (lens : ℕ → Lens) (spot : Spot) (stand : Stand) (share : Share) (ds : List Raw.Datagram) : Type 0 where
  none : share.under ≡ false → AllNotFor spot ds → FrameFor lens spot stand share ds
  one : share.under ≡ true → (d : Raw.Datagram) → HasOne spot share.at d ds → GramFor lens spot stand d → FrameFor lens spot stand share ds

-- two slaves of a ring: another station and another place
pub record AreApart (a b : Spot) : Type 0 where
  pub station : (a.station == b.station) ≡ false
  pub place : (a.place == b.place) ≡ false
