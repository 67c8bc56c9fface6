-- THE TOUR OF A RING behind the first bring-up: how far it is to a slave.
use Rattle.std.specs.Prelude.{◌≡◌, ◌⊎◌, ℕ, suc, ◌==◌, true, false, if◌then◌else◌, Option, Some, None, List, [], ◌∷◌, map, ⊤}
use Rattle.state_model.specs.of_link_model.Segment.{RingFate}
use Rattle.state_model.specs.of_segment_model.Record.{Frame}
use Rattle.state_model.specs.of_segment_model.Visits.{Stop, Carries, carried, split_behind, is_live, is_among}
use Rattle.life_model.specs.Tours.{Member, Tour, round}

-- how many of these slaves come before the one of this station
abbrev pub before : ℕ → List Stop → ℕ
before n [] = 0
before n (s ∷ ss) = if s.station == n then 0 else suc (before n ss)

-- HOW MANY SLAVES OF THE RING, live or not, come before it behind the one carried last
abbrev pub ahead : List Stop → Option ℕ → ℕ → ℕ
ahead ring None n = before n ring
ahead ring (Some last) n = before n (split_behind last [] ring)

-- no station twice
abbrev pub AreApart : List Stop → Type 0
AreApart [] = ⊤
AreApart (s ∷ ss) = (is_live s.station ss ≡ false) × AreApart ss

-- the members of a tour are the slaves of the ring
abbrev pub AreOf : List Stop → List Member → Type 0
AreOf ring members = map (λ m. m.stop) members ≡ ring

-- none, or one of the ring
abbrev pub IsIn : List Stop → Option ℕ → Type 0
IsIn ring None = ⊤
IsIn ring (Some last) = is_live last ring ≡ true

-- the slaves of a lost frame, which come again, are the first of the round
abbrev pub ComeAgain : List Stop → Option (List ℕ) → Type 0
ComeAgain ss None = ⊤
ComeAgain ss (Some same) = (size : ℕ) × Carries size ss same

-- A TOUR GOES ROUND: the first bring-up has ended
pub record GoesRound (ring : List Stop) (t : Tour) : Type 0 where
  pub opening : t.opening ≡ []
  pub members : AreOf ring t.members
  pub last : IsIn ring t.last
  pub again : ComeAgain (round ring t.last t.members) t.again

-- each of these frames came back
abbrev pub AllBack : {M : Type 0} → List (Frame M) → Type 0
AllBack [] = ⊤
AllBack (f ∷ fs) = (f.fate ≡ RingFate.Back) × AllBack fs

-- one of these frames carries it
abbrev pub IsCarriedIn : {M : Type 0} → List Stop → ℕ → List (Frame M) → Type 0
IsCarriedIn ring n [] = ⊥
IsCarriedIn ring n (f ∷ fs) = (is_among n (carried ring f.sent) ≡ true) ⊎ IsCarriedIn ring n fs
