-- A RUN WHOSE FRAMES ARE VISITS OF ONE TOUR, by places in the ring.
use Rattle.std.specs.Prelude.{◌≡◌, ◌<◌, ℕ, nat_lt, Bool, true, false, Option, Some, None, List, [], ◌∷◌}
use Rattle.run_frames.specs.Clocks.{Clocked}
use Rattle.run_frames.specs.Goes.{Under}
use Rattle.run_frames.specs.Orders.{AreFirst, live_round, under_at, is_in, last_of}

-- the slaves of a visit: in the first bring-up the one that is brought up, behind it the first live ones of a round
abbrev pub VisitOf : {M Q R : Type 0} → Bool → ℕ → ℕ → Option ℕ → List (Clocked M Q R) → List ℕ → Type 0
VisitOf true count opened last cs ps = ps ≡ opened ∷ []
VisitOf false count opened last cs ps = AreFirst ps (live_round count last cs)

-- behind a lost frame the same come again
abbrev pub PlacesOf : {M Q R : Type 0} → Option (List ℕ) → ℕ → ℕ → Option ℕ → List (Clocked M Q R) → List ℕ → Type 0
PlacesOf (Some same) count opened last cs ps = ps ≡ same
PlacesOf None count opened last cs ps = VisitOf (nat_lt opened count) count opened last cs ps

-- A FRAME IS A VISIT: it has a datagram for these, and for no other
pub record IsVisited {M Q R : Type 0} (again : Option (List ℕ)) (count opened : ℕ) (last : Option ℕ) (cs : List (Clocked M Q R)) (us : List (Under M Q R)) (ps : List ℕ) : Type 0 where
  pub places : PlacesOf again count opened last cs ps
  pub under : (k : ℕ) → k < count → under_at us k ≡ is_in k ps

-- behind a lost frame its slaves come again, unless they are given up
abbrev pub again_behind : Bool → List ℕ → Option (List ℕ)
again_behind true ps = None
again_behind false ps = Some ps

-- and the tour goes on only where they are; in the first bring-up nobody was carried last
abbrev pub last_lost : Bool → Bool → Option ℕ → List ℕ → Option ℕ
last_lost true gives last ps = None
last_lost false true last ps = last_of last ps
last_lost false false last ps = last
