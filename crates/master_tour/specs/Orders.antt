-- THE ORDER OF A FRAME'S VISITS, by places in the ring.
use Rattle.std.specs.Prelude.{◌≡◌, ℕ, zero, suc, ◌+◌, ◌-◌, ◌||◌, nat_lt, Bool, true, false, if◌then◌else◌, Option, Some, None, List, [], ◌∷◌, ◌++◌, drop, filter, ⊤}
use Rattle.master_tour.specs.Made.{is_in}

-- a round begins behind the slave that was carried last
abbrev pub start_of : ℕ → Option ℕ → ℕ
start_of count None = 0
start_of count (Some last) = if nat_lt last count then last + 1 else 0

-- the place of the slave number k of it
abbrev pub place_in : ℕ → ℕ → ℕ → ℕ
place_in start count k = if nat_lt k (count - start) then start + k else k - (count - start)

-- so many of it, from number k on
abbrev pub places_from : ℕ → ℕ → ℕ → ℕ → List ℕ
places_from start count k zero = []
places_from start count k (suc n) = place_in start count k ∷ places_from start count (suc k) n

-- those of it that are left
abbrev pub round_left : ℕ → ℕ → ℕ → List ℕ
round_left start count passed = places_from start count passed (count - passed)

-- THE VISITS THAT ARE STILL TO COME: behind a lost frame those of the slaves that it carried, in the first bring-up that of the one that is
-- brought up, else those of a round
abbrev pub visits_left : Bool → List ℕ → ℕ → ℕ → Option ℕ → ℕ → List ℕ
visits_left true visit opened count last passed = drop passed visit
visits_left false visit opened count last passed = if nat_lt opened count then drop passed (opened ∷ []) else round_left (start_of count last) count passed

-- no place twice
abbrev pub AreOnce : List ℕ → Type 0
AreOnce [] = ⊤
AreOnce (p ∷ ps) = (is_in p ps ≡ false) × AreOnce ps

-- the visit that comes next is one of those left, and then it isn't any more
pub record IsNextOf (p : ℕ) (left next : List ℕ) : Type 0 where
  pub among : is_in p left ≡ true
  pub over : is_in p next ≡ false
  pub fewer : (k : ℕ) → is_in k next ≡ true → is_in k left ≡ true

-- THE PLACES THAT A FRAME CARRIES: one more where this one is, behind the others, unless the same come again
abbrev pub IsCarried : Bool → Bool → ℕ → List ℕ → List ℕ → Type 0
IsCarried true false place old new = new ≡ old ++ place ∷ []
IsCarried true true place old new = new ≡ old
IsCarried false again place old new = new ≡ old

-- a round passes the slaves that aren't live; behind a lost frame, and in the first bring-up, none is passed
abbrev pub visited_of : Bool → (ℕ → Bool) → List ℕ → List ℕ
visited_of true live ps = ps
visited_of false live ps = filter live ps

-- a lost frame's slaves come again, or one is brought up
abbrev pub is_fixed : Bool → ℕ → ℕ → Bool
is_fixed again opened count = again || nat_lt opened count

-- the slave whose place stands last
abbrev pub last_place : ℕ → List ℕ → ℕ
last_place p [] = p
last_place p (q ∷ ps) = last_place q ps

-- THE SLAVE CARRIED LAST, behind a frame that carried these: a first bring-up leaves none
abbrev pub last_behind : ℕ → ℕ → Option ℕ → List ℕ → Option ℕ
last_behind opened count last [] = last
last_behind opened count last (p ∷ ps) = if nat_lt opened count then None else Some (last_place p ps)
