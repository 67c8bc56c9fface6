-- A frame of the master on its way to a slave that it opens.
use Rattle.std.specs.Prelude.{◌≡◌, ◌⊎◌, if◌then◌else◌, ℕ, ◌+◌, ◌-◌, ◌%◌, false, List, [], ◌∷◌, ⊤}
use Rattle.frames_seen.specs.of_datagrams.Datagram as Raw
use Rattle.frames_seen.specs.of_esc_registers.declared.registers.Registers as Esc
use Rattle.frames_seen.specs.of_esc_registers.Access.{is_by_place}
use Rattle.frames_seen.specs.of_slave_node.Passing.{datagram_after}
use Rattle.frames_seen.specs.of_frame_view.View.{Lens, datagram_seen}
use Rattle.frames_seen.specs.Own.{is_to}
use Rattle.frames_seen.specs.Places.{IsElse}
use Rattle.slave_lives.specs.Opening.{Plan, aim, IsAccess}

-- it isn't for the slave of this plan at this place
abbrev pub IsNotFor : Plan → ℕ → ℕ → Raw.Datagram → Type 0
IsNotFor p place passed d = IsElse place passed d × (is_to p.station d ≡ false) × (is_to 0 d ≡ false)

-- nor is any of these
abbrev pub AllNotFor : Plan → ℕ → ℕ → List Raw.Datagram → Type 0
AllNotFor p place passed [] = ⊤
AllNotFor p place passed (d ∷ ds) = IsNotFor p place passed d × AllNotFor p place passed ds

-- the n-th access, behind `passed` slaves
pub record IsOnWay (p : Plan) (n place passed : ℕ) (d : Raw.Datagram) : Type 0 where
  pub command : d.head.command ≡ (aim p n).command
  pub adp : d.head.adp ≡ (if is_by_place (aim p n).command then (65536 - place + passed) % 65536 else p.station)
  pub ado : d.head.ado ≡ (aim p n).ado
  pub octets : d.body ≡ (aim p n).octets

-- A FRAME OF THE MASTER, for one slave whose n-th access is in hand: at most one datagram is for it, that access
abbrev pub OneOnWay : Plan → ℕ → ℕ → ℕ → List Raw.Datagram → Type 0
OneOnWay p n place passed [] = ⊤
OneOnWay p n place passed (d ∷ ds) = (IsNotFor p place passed d × OneOnWay p n place passed ds) ⊎ (IsOnWay p n place passed d × AllNotFor p place passed ds)

-- a frame that has the access
abbrev pub JustOnWay : Plan → ℕ → ℕ → ℕ → List Raw.Datagram → Type 0
JustOnWay p n place passed [] = ⊥
JustOnWay p n place passed (d ∷ ds) = (IsNotFor p place passed d × JustOnWay p n place passed ds) ⊎ (IsOnWay p n place passed d × AllNotFor p place passed ds)

-- a datagram of a frame, and the one at its place of another
pub data Beside (d e : Raw.Datagram) : List Raw.Datagram → List Raw.Datagram → Type 0 where
  here : (ds es : List Raw.Datagram) → Beside d e (d ∷ ds) (e ∷ es)
  later : (x y : Raw.Datagram) (ds es : List Raw.Datagram) → Beside d e ds es → Beside d e (x ∷ ds) (y ∷ es)

-- THE ACCESS AS IT COMES BACK: of a frame as it came to its slave and as it came back behind all, the access stands beside a datagram that is
-- seen with the counter and the find that its slave gave it
pub record ComesBack (lens : ℕ → Lens) (p : Plan) (n : ℕ) (r : Esc.Registers) (ds es : List Raw.Datagram) : Type 0 where
  pub access : Raw.Datagram
  pub back : Raw.Datagram
  pub beside : Beside access back ds es
  pub is : IsAccess p n access
  pub counter : (datagram_seen lens back).counter ≡ (datagram_seen lens (datagram_after r access)).counter
  pub found : (datagram_seen lens back).found ≡ (datagram_seen lens (datagram_after r access)).found
