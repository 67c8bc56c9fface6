-- A ring of any number of slaves: frames that carry datagrams of several of them, met by all slaves in ring order
-- or by the first of them.
use Rattle.std.specs.Prelude.{◌≡◌, ◌≢◌, ℕ, zero, suc, List, [], ◌∷◌, ◌++◌, map, ⊤}
use Rattle.link_model.specs.Slave.{Node, Server}
use Rattle.link_model.specs.Link.{Link, Fate, run, new_link, held_after, pdi, changed}
use Rattle.link_model.specs.Agree.{Agrees}
use Rattle.link_model.specs.Frames.{Gram, node_after, grams_after, halves_after, all_accepted, halves_without, own, events_of, IsFrameFor}

-- a slave of the ring
pub record RingNode (B S : Type 0) : Type 0 where
  pub station : ℕ
  pub node : Node B S

-- all slaves meet the frame, in ring order
abbrev pub all_meet : {B S : Type 0} → List (RingNode B S) → List (Gram B) → List (RingNode B S)
all_meet [] gs = []
all_meet (n ∷ ns) gs =
    record n { node = node_after n.station n.node gs } ∷ all_meet ns (grams_after n.station n.node gs)

-- the first slaves meet it
abbrev pub first_meet : {B S : Type 0} → ℕ → List (RingNode B S) → List (Gram B) → List (RingNode B S)
first_meet zero ns gs = ns
first_meet (suc k) [] gs = []
first_meet (suc k) (n ∷ ns) gs =
    record n { node = node_after n.station n.node gs } ∷ first_meet k ns (grams_after n.station n.node gs)

-- the frame as it comes back
abbrev pub frame_back : {B S : Type 0} → List (RingNode B S) → List (Gram B) → List (Gram B)
frame_back [] gs = gs
frame_back (n ∷ ns) gs = frame_back ns (grams_after n.station n.node gs)

-- all slaves meet the frame and it returns; or the first of them do and it is lost
pub data RingFate : Type 0 where
  Back : RingFate
  Lost : ℕ → RingFate

-- the slaves behind the frame
abbrev pub ring_after : {B S : Type 0} → List (RingNode B S) → List (Gram B) → RingFate → List (RingNode B S)
ring_after ns gs RingFate.Back = all_meet ns gs
ring_after ns gs (RingFate.Lost after) = first_meet after ns gs

-- a link of the world, with the one station of its halves and its slave
pub record Member (B S : Type 0) : Type 0 where
  pub station : ℕ
  pub link : Link B S

-- the slaves of a world, in ring order
abbrev pub ring_of : {B S : Type 0} → List (Member B S) → List (RingNode B S)
ring_of ms = map (λ m. record { station = m.station; node = m.link.node }) ms

-- the stations of a world, in ring order
abbrev pub stations_of : {B S : Type 0} → List (Member B S) → List ℕ
stations_of ms = map (λ m. m.station) ms

-- the halves behind the returned frame, with what they accept
abbrev pub member_back : {B S : Type 0} → Member B S → List (Gram B) → Node B S → Member B S
member_back m back n = record m {
  link = record m.link {
    halves = halves_after m.station m.link.halves back;
    node = n;
    accepted = m.link.accepted ++ all_accepted m.station m.link.halves back;
  };
}

-- the halves behind the lost frame
abbrev pub member_lost : {B S : Type 0} → Member B S → List (Gram B) → Node B S → Member B S
member_lost m sent n = record m { link = record m.link { halves = halves_without m.station m.link.halves sent; node = n } }

-- the world behind a frame that returned as `back`
abbrev pub members_back : {B S : Type 0} → List (Member B S) → List (Gram B) → List (Gram B) → List (Member B S)
members_back [] gs back = []
members_back (m ∷ ms) gs back =
    member_back m back (node_after m.station m.link.node gs) ∷ members_back ms (grams_after m.station m.link.node gs) back

-- the world behind a frame that was sent as `sent` and lost behind so many slaves
abbrev pub members_lost : {B S : Type 0} → ℕ → List (Member B S) → List (Gram B) → List (Gram B) → List (Member B S)
members_lost after [] gs sent = []
members_lost zero (m ∷ ms) gs sent = member_lost m sent m.link.node ∷ members_lost zero ms gs sent
members_lost (suc k) (m ∷ ms) gs sent =
    member_lost m sent (node_after m.station m.link.node gs) ∷ members_lost k ms (grams_after m.station m.link.node gs) sent

-- the world behind a frame
abbrev pub members_after : {B S : Type 0} → List (Member B S) → List (Gram B) → RingFate → List (Member B S)
members_after ms gs RingFate.Back = members_back ms gs (frame_back (ring_of ms) gs)
members_after ms gs (RingFate.Lost after) = members_lost after ms gs gs

-- the fate of the datagrams to the first slave
abbrev pub fate_here : RingFate → Fate
fate_here RingFate.Back = Fate.Pass
fate_here (RingFate.Lost zero) = Fate.LostBefore
fate_here (RingFate.Lost (suc k)) = Fate.LostBehind

-- the frame's fate for the slaves behind the first
abbrev pub fate_behind : RingFate → RingFate
fate_behind RingFate.Back = RingFate.Back
fate_behind (RingFate.Lost zero) = RingFate.Lost zero
fate_behind (RingFate.Lost (suc k)) = RingFate.Lost k

-- the world where each link has made the events that the datagrams to its own station are, and no others
abbrev pub members_by : {B S : Type 0} → Server B S → List (Member B S) → List (Gram B) → RingFate → List (Member B S)
members_by v [] gs fate = []
members_by v (m ∷ ms) gs fate =
    record m { link = run v m.link (events_of (fate_here fate) (own m.station gs)) } ∷ members_by v ms gs (fate_behind fate)

-- the link of the k-th slave changed by f
abbrev pub at_place : {B S : Type 0} → (Link B S → Link B S) → ℕ → List (Member B S) → List (Member B S)
at_place f k [] = []
at_place f zero (m ∷ ms) = record m { link = f m.link } ∷ ms
at_place f (suc k) (m ∷ ms) = m ∷ at_place f k ms

-- the idle halves that are named take up a mail each
abbrev pub all_held : {B S : Type 0} → List (Member B S) → List (ℕ × B) → List (Member B S)
all_held ms [] = ms
all_held ms (h ∷ hs) = all_held (at_place (λ w. held_after w w.halves.out.holding h.1) h.0 ms) hs

-- one frame, before which the idle halves that are named take up a mail each; a step of the processor of one slave;
-- a change of one slave's server by itself
pub data SegmentEvent (B S : Type 0) : Type 0 where
  Wire : List (ℕ × B) → List (Gram B) → RingFate → SegmentEvent B S
  Step : ℕ → SegmentEvent B S
  Alter : ℕ → (S → S) → SegmentEvent B S

-- the world behind an event
abbrev pub segment_happens : {B S : Type 0} → Server B S → List (Member B S) → SegmentEvent B S → List (Member B S)
segment_happens v ms (SegmentEvent.Wire holds gs fate) = members_after (all_held ms holds) gs fate
segment_happens v ms (SegmentEvent.Step k) = at_place (pdi v) k ms
segment_happens v ms (SegmentEvent.Alter k f) = at_place (λ w. changed w f) k ms

-- the world behind a list of events
abbrev pub segment_run : {B S : Type 0} → Server B S → List (Member B S) → List (SegmentEvent B S) → List (Member B S)
segment_run v ms [] = ms
segment_run v ms (e ∷ es) = segment_run v (segment_happens v ms e) es

-- a fact of each link
abbrev pub Each : {B S : Type 0} → (Link B S → Type 0) → List (Member B S) → Type 0
Each P [] = ⊤
Each P (m ∷ ms) = P m.link × Each P ms

-- the frame has each half's datagram at most once
abbrev pub IsFrame : {B S : Type 0} → List (Member B S) → List (Gram B) → Type 0
IsFrame [] gs = ⊤
IsFrame (m ∷ ms) gs = IsFrameFor m.station m.link.halves gs × IsFrame ms gs

-- an event of the segment may come in this world
abbrev pub MayHappen : {B S : Type 0} → List (Member B S) → SegmentEvent B S → Type 0
MayHappen ms (SegmentEvent.Wire holds gs fate) = IsFrame (all_held ms holds) gs
MayHappen ms (SegmentEvent.Step k) = ⊤
MayHappen ms (SegmentEvent.Alter k f) = ⊤

-- each event of the list may come where it comes
abbrev pub MayRun : {B S : Type 0} → Server B S → List (Member B S) → List (SegmentEvent B S) → Type 0
MayRun v ms [] = ⊤
MayRun v ms (e ∷ es) = MayHappen ms e × MayRun v (segment_happens v ms e) es

-- a number that is none of these
abbrev pub Differs : ℕ → List ℕ → Type 0
Differs x [] = ⊤
Differs x (y ∷ ys) = (y ≢ x) × Differs x ys

-- no station twice
abbrev pub Distinct : List ℕ → Type 0
Distinct [] = ⊤
Distinct (x ∷ xs) = Differs x xs × Distinct xs

-- the link agreement of each slave; no two slaves have one station
pub record SegmentAgrees {B S : Type 0} (ms : List (Member B S)) : Type 0 where
  pub links : Each Agrees ms
  pub stations : Distinct (stations_of ms)

-- each link stands at the end of its bring-up
abbrev pub AllNew : {B S : Type 0} → List (Member B S) → Type 0
AllNew {B} {S} ms = Each (λ w. (s : S) × (w ≡ new_link s)) ms
