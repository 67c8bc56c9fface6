-- Visits: which slaves each frame carries datagrams for, in which order. It follows from the frames before and what came back of them.
use Rattle.std.specs.Prelude.{◌≡◌, ℕ, zero, suc, ◌+◌, ◌-◌, ◌<◌, ◌≤◌, ◌==◌, Bool, true, false, not, nat_lt, if◌then◌else◌, Option, Some, None, List, [], ◌∷◌, ◌++◌, filter, take, drop, length, ⊤}
use Rattle.link_model.specs.Segment.{RingFate}
use Rattle.segment_model.specs.Slaves.{Datagram, Address}
use Rattle.segment_model.specs.Record.{Frame, News, back_news}

-- a slave of a tour: its station, the state that its bring-up ends in, and its larger mailbox area
pub record Stop : Type 0 where
  pub station : ℕ
  pub state : ℕ
  pub area : ℕ

-- where a master stands: the slaves that are still to be brought up, the live ones in ring order, the one carried last, the slaves of a lost
-- frame, which come again, and how many frames were lost in a row
pub record Tour : Type 0 where
  pub opening : List Stop
  pub live : List Stop
  pub last : Option ℕ
  pub again : Option (List ℕ)
  pub missed : ℕ

-- at the start nobody is brought up
abbrev pub new_tour : List Stop → Tour
new_tour stops = record { opening = stops; live = stops; last = None; again = None; missed = 0 }

-- the station of a place in the ring
abbrev pub station_at : List Stop → ℕ → List ℕ
station_at [] n = []
station_at (s ∷ ss) zero = s.station ∷ []
station_at (s ∷ ss) (suc n) = station_at ss n

-- the stations that a frame is addressed to, datagram by datagram
abbrev pub addressed : List Stop → Address → List ℕ
addressed ring (Address.Station station) = station ∷ []
addressed ring (Address.Place n) = station_at ring n
addressed ring Address.Passed = []

-- the stations that a frame carries datagrams for
abbrev pub carried : {M : Type 0} → List Stop → List (Datagram M) → List ℕ
carried ring [] = []
carried ring (d ∷ ds) = addressed ring d.address ++ carried ring ds

-- the slaves from the one behind the last one carried, in ring order and round again
abbrev pub split_behind : ℕ → List Stop → List Stop → List Stop
split_behind last passed [] = passed
split_behind last passed (s ∷ ss) = if s.station == last then ss ++ passed ++ s ∷ [] else split_behind last (passed ++ s ∷ []) ss

-- this station is one of these slaves'
abbrev pub is_live : ℕ → List Stop → Bool
is_live n [] = false
is_live n (s ∷ ss) = if s.station == n then true else is_live n ss

-- a round of the live slaves: from the one behind the last one carried, which may be given up, in ring order
abbrev pub round : List Stop → Option ℕ → List Stop → List Stop
round ring None live = live
round ring (Some last) live = filter (λ s. is_live s.station live) (split_behind last [] ring)

-- the frame carries the first slaves of a round, at least one, and leaves out none that would fit
abbrev pub Fills : ℕ → List Stop → List ℕ → Type 0
Fills size [] [] = ⊤
Fills size (s ∷ ss) [] = 1486 < size + s.area
Fills size [] (c ∷ cs) = ⊥
Fills size (s ∷ ss) (c ∷ cs) = (s.station ≡ c) × Fills size ss cs

-- and it carries at least one
abbrev pub Carries : ℕ → List Stop → List ℕ → Type 0
Carries size ss [] = ⊥
Carries size ss (c ∷ cs) = Fills size ss (c ∷ cs)

-- the slaves of this frame: those of the lost frame before it; else the one that is brought up; else those of a round
abbrev pub IsVisit : ℕ → Option (List ℕ) → List Stop → List Stop → List ℕ → Type 0
IsVisit size (Some same) opening ss cs = cs ≡ same
IsVisit size None (s ∷ opening) ss cs = cs ≡ s.station ∷ []
IsVisit size None [] ss cs = Carries size ss cs

-- the state in which a bring-up ends was read
abbrev pub shows : {M : Type 0} → ℕ → List (News M) → Bool
shows state [] = false
shows state (News.Status s None ∷ ns) = if s == state then true else shows state ns
shows state (News.Status s (Some code) ∷ ns) = shows state ns
shows state (News.Told m ∷ ns) = shows state ns
shows state (News.Written ∷ ns) = shows state ns
shows state (News.Heard m ∷ ns) = shows state ns
shows state (News.NothingRead ∷ ns) = shows state ns
shows state (News.BoxFull full ∷ ns) = shows state ns

-- the slaves that are still to be brought up behind a returned frame
abbrev pub opening_after : {M : Type 0} → List (Datagram M) → List Stop → List Stop
opening_after back [] = []
opening_after back (s ∷ ss) = if shows s.state (back_news s.station 0 back) then ss else s ∷ ss

-- these slaves are given up
abbrev pub is_among : ℕ → List ℕ → Bool
is_among n [] = false
is_among n (m ∷ ms) = if m == n then true else is_among n ms

-- all slaves but these
abbrev pub without : List ℕ → List Stop → List Stop
without gone ss = filter (λ s. not (is_among s.station gone)) ss

-- the last of these, or the one before
abbrev pub last_of : Option ℕ → List ℕ → Option ℕ
last_of last [] = last
last_of last (c ∷ cs) = last_of (Some c) cs

-- bring-up leaves no last one: the first frame behind it begins with the first live slave
abbrev pub visited : List Stop → Option ℕ → Option ℕ
visited [] last = last
visited (s ∷ ss) last = None

-- behind a frame that came back the tour goes on; behind a lost one the same slaves come again, or, behind one lost frame more than `retry`
-- in a row, are given up
abbrev pub tour_after : {M : Type 0} → ℕ → Tour → List ℕ → Frame M → RingFate → Tour
tour_after retry t cs f RingFate.Back =
    record { opening = opening_after f.back t.opening; live = t.live; last = visited t.opening (last_of t.last cs); again = None; missed = 0 }
tour_after retry t cs f (RingFate.Lost after) =
    if nat_lt t.missed retry then record t { again = Some cs; missed = suc t.missed }
    else record { opening = without cs t.opening; live = without cs t.live; last = visited t.opening (last_of t.last cs); again = None; missed = 0 }

-- VISITS: each frame carries the slaves of its tour; `size` is the length in a frame's header
abbrev pub Visits : {M : Type 0} → (List (Datagram M) → ℕ) → ℕ → List Stop → Tour → List (Frame M) → Type 0
Visits size retry ring t [] = ⊤
Visits size retry ring t (f ∷ fs) =
    IsVisit (size f.sent) t.again t.opening (round ring t.last t.live) (carried ring f.sent)
    × Visits size retry ring (tour_after retry t (carried ring f.sent) f f.fate) fs

-- this station is none of these
abbrev pub Absent : ℕ → List ℕ → Type 0
Absent n [] = ⊤
Absent n (m ∷ ms) = ((m == n) ≡ false) × Absent n ms

-- no frame of these carries this station
abbrev pub NeverCarried : {M : Type 0} → List Stop → ℕ → List (Frame M) → Type 0
NeverCarried ring n [] = ⊤
NeverCarried ring n (f ∷ fs) = Absent n (carried ring f.sent) × NeverCarried ring n fs

-- the tour behind these frames
abbrev pub tour_over : {M : Type 0} → ℕ → List Stop → Tour → List (Frame M) → Tour
tour_over retry ring t [] = t
tour_over retry ring t (f ∷ fs) = tour_over retry ring (tour_after retry t (carried ring f.sent) f f.fate) fs

-- a frame was lost
abbrev pub IsLost : RingFate → Type 0
IsLost RingFate.Back = ⊥
IsLost (RingFate.Lost after) = ⊤

-- each of these was lost, and carried just these slaves
abbrev pub AllLost : {M : Type 0} → List Stop → List ℕ → List (Frame M) → Type 0
AllLost ring cs [] = ⊤
AllLost ring cs (f ∷ fs) = (IsLost f.fate × (carried ring f.sent ≡ cs)) × AllLost ring cs fs

-- each of these was lost, and carried this slave
abbrev pub AllMissed : {M : Type 0} → List Stop → ℕ → List (Frame M) → Type 0
AllMissed ring station [] = ⊤
AllMissed ring station (f ∷ fs) = (IsLost f.fate × (is_among station (carried ring f.sent) ≡ true)) × AllMissed ring station fs

-- A SLAVE IS GIVEN UP AT FRAME g: frames g - retry to g were lost and carried it, and no later frame does
pub record IsGivenUp {M : Type 0} (retry : ℕ) (ring : List Stop) (station g : ℕ) (fs : List (Frame M)) : Type 0 where
  pub first : retry ≤ g
  pub sent : g < length fs
  pub missed : AllMissed ring station (take (suc retry) (drop (g - retry) fs))
  pub behind : NeverCarried ring station (drop (suc g) fs)
