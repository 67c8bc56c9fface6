-- ALL SLAVES OF A RING and one frame of its master: what the frame has for each, by how the master stands to it.
use Rattle.std.specs.Prelude.{◌≡◌, ◌⊎◌, ◌==◌, ℕ, suc, Bool, true, false, List, [], ◌∷◌, map, ⊤}
use Rattle.frames_seen.specs.of_datagrams.Datagram as Raw
use Rattle.frames_seen.specs.of_esc_registers.declared.registers.Registers as Esc
use Rattle.frames_seen.specs.of_slave_node.Passing.{datagrams_after}
use Rattle.frames_seen.specs.of_frame_view.View.{Lens}
use Rattle.frames_seen.specs.Own.{own_of, IsApart, IsAlone, NoneMeant}
use Rattle.frames_seen.specs.Places.{AllElse}
use Rattle.frames_seen.specs.Slaves.{IsOpen}
use Rattle.frames_seen.specs.Spoken.{AllSpoken}
use Rattle.frames_seen.specs.of_slave_node.Node.{Node}
use Rattle.frames_seen.specs.of_life_model.Lives.{Opening, Stand}
use Rattle.slave_lives.specs.Opening.{Plan, IsPlan, AtMostOne}
use Rattle.slave_lives.specs.Stands.{turn_of, IsClosed, OpenUp}
use Rattle.slave_lives.specs.Steps.{Running}
use Rattle.slave_lives.specs.Ways.{OneOnWay, AllNotFor}

-- a slave of the ring: its services as they run, whether it has Bootstrap, its plan with the state that is opened, how the master stands to it,
-- and its node
pub record Seat (S : Type 0) : Type 0 where
  pub services : Running S
  pub boot : Bool
  pub plan : Plan
  pub stand : Stand
  pub node : Node S

-- an open slave whose reopening has begun, as long as it hasn't met the first access
pub record StandsYet {S : Type 0} (lens : ℕ → Lens) (p : Plan) (o : Opening) (n : Node S) : Type 0 where
  pub again : o.again ≡ true
  pub step : o.step ≡ 1
  pub up : OpenUp lens p n.registers

-- what is known of its node
abbrev pub KnownAs : {S : Type 0} → Running S → Bool → (ℕ → Lens) → Plan → Stand → Node S → Type 0
KnownAs u boot lens p (Stand.Opens o) n = IsClosed u boot lens p o n ⊎ StandsYet lens p o n
KnownAs u boot lens p Stand.Open n = IsOpen lens n.registers × (n.registers.station ≡ p.station)
KnownAs u boot lens p Stand.Gone n = (n.registers.station ≡ 0) ⊎ (n.registers.station ≡ p.station)

-- THE MASTER'S FRAME FOR IT, behind so many slaves: at most the access of its opening in hand; datagrams to its station of which a session
-- speaks; nothing once it is given up for good. What is by place is another slave's.
abbrev pub ComesAs : Plan → Stand → ℕ → ℕ → List Raw.Datagram → Type 0
ComesAs p (Stand.Opens o) place passed ds = OneOnWay p (turn_of o) place passed ds
ComesAs p Stand.Open place passed ds = AllElse place passed ds × AllSpoken p.station (own_of p.station ds)
ComesAs p Stand.Gone place passed ds = AllNotFor p place passed ds

-- and as it comes to it
abbrev pub MeetsAs : Plan → Stand → Esc.Registers → List Raw.Datagram → Type 0
MeetsAs p (Stand.Opens o) r ds = AtMostOne p (turn_of o) r ds
MeetsAs p Stand.Open r ds = IsAlone r.station r ds × AllSpoken r.station (own_of r.station ds)
MeetsAs p Stand.Gone r ds = NoneMeant r ds

-- each slave from a place on is known, has a plan with a station of its own, and the frame is the master's for it
pub record SeatIs {S : Type 0} (lens : ℕ → Lens) (s : Seat S) : Type 0 where
  pub plan_is : IsPlan s.boot lens s.plan
  pub named : (0 == s.plan.station) ≡ false
  pub known : KnownAs s.services s.boot lens s.plan s.stand s.node

-- each of these
abbrev pub AllSeats : {S : Type 0} → (ℕ → Lens) → List (Seat S) → Type 0
AllSeats lens [] = ⊤
AllSeats lens (s ∷ ss) = SeatIs lens s × AllSeats lens ss

-- no station twice
abbrev pub IsElsewhere : {S : Type 0} → Plan → List (Seat S) → Type 0
IsElsewhere p [] = ⊤
IsElsewhere p (s ∷ ss) = ((p.station == s.plan.station) ≡ false) × IsElsewhere p ss

-- of each two of these
abbrev pub AreDistinct : {S : Type 0} → List (Seat S) → Type 0
AreDistinct [] = ⊤
AreDistinct (s ∷ ss) = IsElsewhere s.plan ss × AreDistinct ss

-- to each of these
abbrev pub AllCome : {S : Type 0} → ℕ → ℕ → List (Seat S) → List Raw.Datagram → Type 0
AllCome place passed [] ds = ⊤
AllCome place passed (s ∷ ss) ds = ComesAs s.plan s.stand place passed ds × AllCome (suc place) passed ss ds

-- their nodes
abbrev pub nodes_of : {S : Type 0} → List (Seat S) → List (Node S)
nodes_of ss = map (λ s. s.node) ss

-- as it comes to each, one behind the other: the slave meets what is its own, and datagrams to any other station leave it alone
pub record MeetsOne {S : Type 0} (s : Seat S) (ds : List Raw.Datagram) : Type 0 where
  pub meets : MeetsAs s.plan s.stand s.node.registers ds
  pub apart : (station : ℕ) → (0 == station) ≡ false → (s.plan.station == station) ≡ false → IsApart station s.node.registers ds

-- one behind the other
abbrev pub AllMeet : {S : Type 0} → List (Seat S) → List Raw.Datagram → Type 0
AllMeet [] ds = ⊤
AllMeet (s ∷ ss) ds = MeetsOne s ds × AllMeet ss (datagrams_after s.node.registers ds)
